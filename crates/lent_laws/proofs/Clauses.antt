-- Refusal 19 by its clauses: where none holds the facts of `Passes` do, and where these do nothing is refused. So what one of them contradicts is refused.
use Prim.Native.Nat.{ℕ, ◌+◌, ◌*◌}
use mathlib.Core.Path.{◌≡◌, refl, sym, ap}
use mathlib.Core.Logic.{◌≢◌}
use mathlib.Core.Bool.{Bool, true, false, not, ◌&&◌, ◌||◌, true≢false}
use mathlib.Core.List.{flat_map}
use native.Mathlib.Decide.{ℕ_discrete}
use native.Mathlib.Omega.{arith}
use lib.Dec.{eqb}
use lib.ListN.{get_or, take}
use borrow.Author.Tests.{le-ltb, eq-eqb, ne_eqb, eqb-true, eqb-false, not-false, ltb-false}
use Rattle.rules.specs.Lists.{count, upto, total, any_of}
use Rattle.rules.specs.Layout.{Lines}
use Rattle.rules.specs.Refusals.{short, piece_size}
use Rattle.rules.specs.Pieces.{LentPieces, plain_lines, first_member, member_count, source, first_point, point_count, members_at, listing_at, leader, members_wrong, listing_wrong, names_differ, no_line, no_point, mixes_groups, members_leave, points_leave, not_finite, own_place, not_own, too_many, mark_above, frame_bad, content_bad, piece_bad, lent_bad}
use Rattle.chain_laws.proofs.Counts.{upto_in, upto_out, pos_of}
use Rattle.lent_laws.specs.Passes.{OwnPlace, FrameFine, PieceFine, Passes}
use Rattle.lent_laws.proofs.Tests.{or_none, or_off, any_none, any_off, differ_none, differ_off}

and_all : (a b c : Bool) → a ≡ true → b ≡ true → c ≡ true → (a && (b && c)) ≡ true
and_all a b c e f g = rw (e, f, g)

and_told : (a b c : Bool) → (a && (b && c)) ≡ true → (a ≡ true) × (b ≡ true) × (c ≡ true)
and_told true true true e = (refl, refl, refl)
and_told true true false e = absurd (true≢false (sym e))
and_told true false c e = absurd (true≢false (sym e))
and_told false b c e = absurd (true≢false (sym e))

module _ (w : ℕ) (l : Lines) (p : LentPieces) where
  module _ (q : ℕ) where
    abbrev end : ℕ
    end = first_member w l p q + member_count w l p q

    -- ---- the record's numbers

    frame_fine : FrameFine w l p q → frame_bad w l p q ≡ false
    unfolding frame_bad
    frame_fine f =
        or_none (no_line w l p q) _ (ne_eqb _ 0 (λ (z : member_count w l p q ≡ 0). omega (arith, f.some_line)))
        (or_none (no_point w l p q) _ (ne_eqb _ 0 (λ (z : point_count w l p q ≡ 0). omega (arith, f.some_point)))
        (or_none (members_leave w l p q) (points_leave w l p q)
        (or_none (short p.members end) _ (le-ltb _ _ f.members_in) (or_none (short p.marks end) (short p.listing end) (le-ltb _ _ f.marks_in) (le-ltb _ _ f.listing_in)))
        (le-ltb _ _ f.points_in)))

    frame_told : frame_bad w l p q ≡ false → FrameFine w l p q
    unfolding frame_bad
    frame_told e =
        let a = or_off (no_line w l p q) (no_point w l p q || (members_leave w l p q || points_leave w l p q)) e in
        let b = or_off (no_point w l p q) (members_leave w l p q || points_leave w l p q) a.1 in
        let c = or_off (members_leave w l p q) (points_leave w l p q) b.1 in
        let d = or_off (short p.members end) (short p.marks end || short p.listing end) c.0 in
        let f = or_off (short p.marks end) (short p.listing end) d.1 in
        record {
          some_line = pos_of _ (eqb-false _ _ a.0);
          some_point = pos_of _ (eqb-false _ _ b.0);
          members_in = ltb-false _ _ d.0;
          marks_in = ltb-false _ _ f.0;
          listing_in = ltb-false _ _ f.1;
          points_in = ltb-false _ _ c.1;
        }

    -- ---- what they name

    abbrev other : ℕ → Bool
    other y = not (eqb (get_or l.groups y 0) (get_or l.groups (leader w l p q) 0))

    own_fine : PieceFine w l p q → not_own w l p q ≡ false
    unfolding not_own own_place
    own_fine f =
        elim (ℕ_discrete (member_count w l p q) 1) [
          | yes d ↦
              let o = f.own d in
              rw (eq-eqb (member_count w l p q) 1 d, not_own) (ap not (and_all (eqb (source w l p q) 0) (eqb (first_point w l p q) (total (take (leader w l p q) l.counts))) (eqb (point_count w l p q) (get_or l.counts (leader w l p q) 0)) (eq-eqb _ _ o.input) (eq-eqb _ _ o.first) (eq-eqb _ _ o.count)))
          | no d ↦ rw (ne_eqb (member_count w l p q) 1 d, not_own) (ap not (eq-eqb _ _ (f.merged d)))
        ]

    own_told : not_own w l p q ≡ false → member_count w l p q ≡ 1 → OwnPlace w l p q
    unfolding not_own own_place
    own_told e d =
        let o =
        and_told (eqb (source w l p q) 0) (eqb (first_point w l p q) (total (take (leader w l p q) l.counts))) (eqb (point_count w l p q) (get_or l.counts (leader w l p q) 0))
        (not-false _ (rw (eq-eqb (member_count w l p q) 1 d, not_own) at e)) in
        record { input = eqb-true _ _ o.0; first = eqb-true _ _ o.1; count = eqb-true _ _ o.2 }

    merged_told : not_own w l p q ≡ false → member_count w l p q ≢ 1 → source w l p q ≡ 1
    unfolding not_own
    merged_told e d = eqb-true _ _ (not-false _ (rw (ne_eqb (member_count w l p q) 1 d, not_own) at e))

    abbrev rest : Bool
    rest = content_bad w l p q || not_finite w l p q

    abbrev last : Bool
    last = not_own w l p q || mark_above w l p q

    piece_fine : PieceFine w l p q → piece_bad w l p q ≡ false
    unfolding piece_bad names_differ content_bad mixes_groups not_finite
    piece_fine f =
        or_none (frame_bad w l p q) (names_differ w l p q || rest) (frame_fine f.frame)
        (or_none (names_differ w l p q) rest (differ_none (members_at w l p q) (listing_at w l p q) f.names)
        (or_none (content_bad w l p q) (not_finite w l p q)
        (or_none (mixes_groups w l p q) last (any_none other (members_at w l p q) (λ y k. ap not (eq-eqb _ _ (f.groups y k))))
        (or_none (not_own w l p q) (mark_above w l p q) (own_fine f) f.marks))
        f.places))

    piece_told : piece_bad w l p q ≡ false → PieceFine w l p q
    unfolding piece_bad names_differ content_bad mixes_groups not_finite
    piece_told e =
        let a = or_off (frame_bad w l p q) (names_differ w l p q || rest) e in
        let b = or_off (names_differ w l p q) rest a.1 in
        let c = or_off (content_bad w l p q) (not_finite w l p q) b.1 in
        let d = or_off (mixes_groups w l p q) last c.0 in
        let f = or_off (not_own w l p q) (mark_above w l p q) d.1 in
        record {
          frame = frame_told a.0;
          names = differ_off (members_at w l p q) (listing_at w l p q) b.0;
          groups = λ y k. eqb-true _ _ (not-false _ (any_off other y (members_at w l p q) k d.0));
          own = own_told f.0;
          merged = merged_told f.0;
          marks = f.1;
          places = c.1;
        }

  -- ---- all pieces

  abbrev k : ℕ
  k = p.number

  abbrev three : Bool
  three = members_wrong w l p || (listing_wrong w l p || too_many w l p)

  -- WHAT PASSES IS NOT REFUSED
  pub passes : Passes w l p → lent_bad w l p ≡ false
  unfolding lent_bad members_wrong listing_wrong too_many
  passes o =
      or_none (short p.records (k * piece_size)) (any_of (piece_bad w l p) (upto k) || three) (le-ltb _ _ o.inside)
      (or_none (any_of (piece_bad w l p) (upto k)) three (any_none (piece_bad w l p) (upto k) (λ q h. piece_fine q (o.fine q (upto_out k q h))))
      (or_none (members_wrong w l p) (listing_wrong w l p || too_many w l p) (differ_none (flat_map (members_at w l p) (upto k)) (plain_lines w l) o.members)
      (or_none (listing_wrong w l p) (too_many w l p) (differ_none (flat_map (listing_at w l p) (upto k)) (plain_lines w l) o.listing) (le-ltb _ _ o.few))))

  -- WHAT IS NOT REFUSED PASSES
  pub passed : lent_bad w l p ≡ false → Passes w l p
  unfolding lent_bad members_wrong listing_wrong too_many
  passed e =
      let a = or_off (short p.records (k * piece_size)) (any_of (piece_bad w l p) (upto k) || three) e in
      let b = or_off (any_of (piece_bad w l p) (upto k)) three a.1 in
      let c = or_off (members_wrong w l p) (listing_wrong w l p || too_many w l p) b.1 in
      let d = or_off (listing_wrong w l p) (too_many w l p) c.1 in
      record {
        inside = ltb-false _ _ a.0;
        fine = λ q h. piece_told q (any_off (piece_bad w l p) q (upto k) (upto_in k q h) b.0);
        members = differ_off (flat_map (members_at w l p) (upto k)) (plain_lines w l) c.0;
        listing = differ_off (flat_map (listing_at w l p) (upto k)) (plain_lines w l) d.0;
        few = ltb-false _ _ d.1;
      }

  -- and so what can't pass is refused
  pub refused : (Passes w l p → ⊥) → lent_bad w l p ≡ true
  refused n = go (lent_bad w l p) refl
    where
      go : (b : Bool) → lent_bad w l p ≡ b → lent_bad w l p ≡ true
      go true e = e
      go false e = absurd (n (passed e))
