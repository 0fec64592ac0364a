-- WHAT THE PORT BUILDS IN ONE CALL, WITH ITS LISTING, IS ACCEPTED, for every accepted call: none of the refusals of the check applies to it. The chains that
-- are delivered are those that a host reads, which are the book's.
use Prim.Native.Nat.{ℕ, zero, suc, ◌+◌, ◌-◌, ◌*◌, ◌≤◌, ◌<◌}
use mathlib.Core.Path.{◌≡◌, refl, sym, ap, ap₂, ◌∙◌, subst}
use mathlib.Core.Bool.{Bool, true, false, not, ◌||◌}
use mathlib.Core.List.{List, [], ◌∷◌, ◌++◌, map, flat_map}
use native.Mathlib.Omega.{arith}
use lib.Dec.{ltb, leb}
use lib.ListN.{length, get_or, take, drop}
use borrow.Author.Tests.{le-ltb, lt-leb}
use Rattle.rules.specs.Answers.{Answer}
use Rattle.rules.specs.Answers.{Accepted}
use Rattle.rules.specs.declared.Settings.{Settings}
use Rattle.rules.specs.Lists.{count, total, upto, any_of}
use Rattle.rules.specs.Plane.{points, flat}
use Rattle.rules.specs.Chaining.{Piece, nothing, Line, chains}
use Rattle.rules.specs.Types.{width_of}
use Rattle.rules.specs.Layout.{Lines, lines_in, copy, table as table_of, build, laid_out}
use Rattle.rules.specs.Refusals.{Rooms, first_of, line_tests, origin_bad, short, entry, no_chain, any_nowhere, line_room}
use Rattle.rules.specs.Calls.{unless, answer_of, written, filled, Built}
use Rattle.rules.specs.Check.{Delivery, listed_at, delivered_at, bad_record, acceptable, accepted, check_refusal_of, Checked}
use Rattle.chain_laws.proofs.Counts.{Each, each_get_d, count_at, count_append, upto_out}
use Rattle.chain_laws.proofs.Lines.{lines_of, no_other_line}
use Rattle.chain_laws.proofs.Room.{lines_length}
use Rattle.chain_laws.proofs.Sound.{no_line, Sound, chains_sound}
use Rattle.chain_travel.proofs.Lent.{lines_places}
use Rattle.build_lines.specs.Taken.{Adds}
use Rattle.build_refusals.proofs.Laws.{Left, lines_numbered, opened, rest_tests, parted, climbed, rung, top}
use Rattle.build_reading.proofs.Reading.{by_index, Stands, line_stands, chain_there}
use Rattle.build_reading.proofs.Calls.{taken, let_in, filled_is, call_viewed}
use Rattle.build_reading.proofs.Points.{points_read}
use Rattle.check_laws.proofs.Rows.{each_none}
use Rattle.check_built.specs.Built.{meeting_of, built_delivery}
use Rattle.check_built.proofs.Records.{listing_read, listing_inside}
use Rattle.check_built.proofs.Accepted.{delivered_of, chains_acceptable}

-- a line of a chain is among all
in_all : (y : ℕ) (qs : List Piece) (i : ℕ) → 0 < count y (get_or qs i nothing).lines → 0 < count y (lines_of qs)
unfolding flat_map count
in_all y [] i h = h
in_all y (p ∷ qs) zero h = omega (arith, count_append y p.lines (lines_of qs))
in_all y (p ∷ qs) (suc i) h = omega (arith, count_append y p.lines (lines_of qs), in_all y qs i h)

or_none : (a b : Bool) → a ≡ false → b ≡ false → (a || b) ≡ false
or_none a b e f = ap₂ ◌||◌ e f

-- ---- an accepted call

module _ {t : ℕ} {l : Lines} {s : Settings} {o o' : Rooms} {n : ℕ} (built : Built t l s o (Accepted n) o') (workspace : List ℕ)
    (long : length l.counts * line_room ≤ length workspace) where
  abbrev w : ℕ
  w = width_of t

  abbrev ls : List Line
  ls = lines_in w l

  abbrev ps : List Piece
  ps = chains s ls

  abbrev i : Delivery
  i = built_delivery t l s o' n workspace

  number_is : n ≡ length ps
  number_is = (taken built).1

  adds : Adds w l.counts l.coordinates
  adds = record { two = (let_in built).two; sum = (let_in built).adds }

  own : (k : ℕ) → Stands w l.coordinates (total (take k l.counts)) (get_or ls k no_line).points
  own k = line_stands w l.coordinates l.counts l.groups l.kinds k adds

  places : Each (λ l. any_nowhere l.points ≡ false) ls
  places = lines_places (points w l.coordinates) l.counts l.groups l.kinds (let_in built).places

  -- ---- record by record

  module _ (k : ℕ) (h : k < n) where
    abbrev p : Piece
    p = get_or ps k nothing

    there : k < length ps
    there = omega (arith, number_is)

    abbrev behind : List ℕ
    behind = drop (length (table_of l.counts 0 0 ps)) o.table

    abbrev copies : List ℕ
    copies = drop (length (flat w (flat_map copy ps))) o.merged

    stands : no_chain w l.coordinates o'.merged o'.table k ≡ false
    unfolding filled build laid_out written
    stands =
        subst (λ (r : Rooms). no_chain w l.coordinates r.merged r.table k ≡ false) (sym (filled_is built))
        (chain_there t w refl l.coordinates l.counts ls ps (chains_sound s ls) own behind [] [] [] copies [] [] [] k there)

    listed_is : listed_at o'.table o'.listing k ≡ p.listing
    unfolding filled build laid_out written listed_at
    listed_is =
        subst (λ (r : Rooms). take (entry r.table k 1) (drop (entry r.table k 0) r.listing) ≡ p.listing) (sym (filled_is built))
        (listing_read t w refl l.coordinates l.counts ls ps (chains_sound s ls) own behind copies [] k there
        (drop (length (flat_map (λ p. p.listing) ps)) o.listing))

    inside : entry o'.table k 0 + entry o'.table k 1 ≤ length o'.listing
    unfolding filled build laid_out written
    inside =
        subst (λ (r : Rooms). entry r.table k 0 + entry r.table k 1 ≤ length r.listing) (sym (filled_is built))
        (listing_inside t w refl l.coordinates l.counts ls ps (chains_sound s ls) own behind copies [] k there
        (drop (length (flat_map (λ p. p.listing) ps)) o.listing))

    below : (j : ℕ) → j < length p.listing → get_or p.listing j 0 < length l.counts
    below j b =
        let y = get_or p.listing j 0 in
        let c : 0 < count y (lines_of ps) =
        in_all y ps k (omega (arith, count_at p.listing j b, (each_get_d (Sound ls) ps k nothing (chains_sound s ls) there).drawn.passes y)) in
        elim (native.Mathlib.Decide.dec_lt y (length l.counts)) [
          | yes z ↦ z
          | no z ↦ absurd (omega (arith, no_other_line s ls y (omega (arith, lines_length (points w l.coordinates) l.counts l.groups l.kinds))))
        ]

    good_record : bad_record i k ≡ false
    unfolding bad_record
    good_record =
        or_none (no_chain w l.coordinates o'.merged o'.table k) _ stands
        (or_none (ltb (length o'.listing) (entry o'.table k 0 + entry o'.table k 1)) _ (le-ltb _ _ inside)
        (ap (any_of (leb (length l.counts))) listed_is
        ∙ each_none (leb (length l.counts)) p.listing 0 (λ j b. lt-leb (length l.counts) (get_or p.listing j 0) (below j b))))

    delivered_is : delivered_at i k ≡ delivered_of (get_or ps k nothing)
    unfolding delivered_at
    delivered_is = λ x. record {
      listed = listed_is x;
      coordinates = (ap (points w) (call_viewed built k h) ∙ points_read w l s (let_in built).two k there) x;
    }

  -- ---- the refusals, one after another

  records_good : any_of (bad_record i) (upto n) ≡ false
  records_good =
      each_none (bad_record i) (upto n) 0 (λ j h. good_record (get_or (upto n) j 0) (upto_out n (get_or (upto n) j 0) (count_at (upto n) j h)))

  chains_good : accepted i ≡ true
  unfolding accepted
  chains_good =
      ap (acceptable (meeting_of s) ls)
      (ap (λ (j : ℕ). map (delivered_at i) (upto j)) number_is ∙ by_index (delivered_at i) delivered_of nothing ps (λ k h. delivered_is k (omega (arith, number_is))))
      ∙ chains_acceptable ls places s

  lines_good : 0 ≡ first_of (line_tests t l)
  lines_good = (parted (line_tests t l) (rest_tests l s o) (lines_numbered t l) (record { is = sym (taken built).0 ∙ (opened t l s o).is })).0.is

  ladder : Left (check_refusal_of i)
      (line_tests t l
      ++ ((17, origin_bad s.origin_x s.origin_y) ∷ (7, short workspace (length l.counts * line_room)) ∷ (23, any_of (bad_record i) (upto n)) ∷ (24, not (accepted i)) ∷ []))
  unfolding check_refusal_of
  ladder = record { is = refl }

  -- WHAT IS BUILT IS ACCEPTED
  pub built_accepted : check_refusal_of (built_delivery t l s o' n workspace) ≡ 0
  built_accepted =
      sym
      (top
      (rung
      (rung (rung (rung (climbed (line_tests t l) _ ladder (lines_numbered t l) lines_good refl) (let_in built).cornered) (le-ltb (length workspace) (length l.counts * line_room) long)) records_good)
      (ap not chains_good)))

  -- and so the call that judges it accepts with 0
  pub built_checked : {r : Answer} {workspace' : List ℕ} → Checked (built_delivery t l s o' n workspace) r workspace' → r ≡ Accepted 0
  unfolding answer_of unless
  built_checked c = c.answer ∙ ap (λ (k : ℕ). answer_of k 0) built_accepted
