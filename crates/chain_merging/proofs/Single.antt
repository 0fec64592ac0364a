-- A piece with one line or two: its members, its marks and its listing are a number stored each.
use Prim.Native.Nat.{ℕ, zero, suc, ◌+◌, ◌-◌, ◌*◌, ◌%◌, ◌≤◌, ◌<◌}
use mathlib.Core.Path.{◌≡◌, refl, sym, ap, ◌∙◌, subst}
use mathlib.Core.List.{List, [], ◌∷◌}
use native.Mathlib.Omega.{arith}
use lib.ListN.{length, get_or, take, drop, set, length-set}
use lib.Seq.{slice, drop-cons}
use Rattle.point_slices.specs.Holds.{HoldsFrom}
use Rattle.point_slices.proofs.Laws.{slice_part, two_put, part_length}
use Rattle.chain_laws.proofs.Counts.{each_get_d}
use Rattle.chain_pieces.proofs.Storing.{one_put}
use Rattle.chain_pieces.proofs.Reading.{get_d_part}
use Rattle.chain_pieces.specs.Map.{listing_block, mark_block, member_block}
use Rattle.chain_merging.specs.Emit.{turned_by, passed_by, Listable, Members}

slice_one : (w : List ℕ) (from : ℕ) → from < length w → slice from (from + 1) w ≡ get_or w from 0 ∷ []
slice_one w from h = slice_part from 1 w ∙ ap (take 1) (drop-cons w from 0 h)

slice_two : (w : List ℕ) (from : ℕ) → from + 2 ≤ length w → slice from (from + 2) w ≡ get_or w from 0 ∷ get_or w (from + 1) 0 ∷ []
slice_two w from h =
    let e : suc from ≡ from + 1 = omega arith in
    slice_part from 2 w
    ∙ ap (take 2)
    (drop-cons w from 0 (omega arith) ∙ ap (λ (l : List ℕ). get_or w from 0 ∷ l) (ap (λ (k : ℕ). drop k w) e ∙ drop-cons w (from + 1) 0 (omega arith)))

-- one line is passed first from either side, and of two the one at that side
passed_one : (side a : ℕ) → side ≤ 1 → passed_by side (a ∷ []) ≡ a ∷ []
passed_one zero a h = refl
passed_one (suc zero) a h = refl
passed_one (suc (suc s)) a h = absurd (omega arith)

passed_two : (w : List ℕ) (from side : ℕ) → side ≤ 1
    → passed_by side (get_or w from 0 ∷ get_or w (from + 1) 0 ∷ []) ≡ get_or w (from + side) 0 ∷ get_or w (from + (1 - side)) 0 ∷ []
passed_two w from zero h = let e : from + 0 ≡ from = omega arith in ap (λ (k : ℕ). get_or w k 0 ∷ get_or w (from + 1) 0 ∷ []) (sym e)
passed_two w from (suc zero) h = let e : from + 0 ≡ from = omega arith in ap (λ (k : ℕ). get_or w (from + 1) 0 ∷ get_or w k 0 ∷ []) (sym e)
passed_two w from (suc (suc s)) h = absurd (omega arith)

module _ (w : List ℕ) (n from at side : ℕ) where
  -- the marks that are read are 0 or 1
  pub mark_low : (count i : ℕ) → Listable w n from at count side → i < count → get_or w (from + n * mark_block + i) 0 ≤ 1
  mark_low count i y h =
      let l = slice (from + n * mark_block) (from + n * mark_block + count) w in
      let k : length l ≡ count = part_length (from + n * mark_block) count w (omega (arith, y.inside)) in
      omega (arith, get_d_part (from + n * mark_block) count w i h, each_get_d (λ x. x ≤ 1) l i 0 y.low (omega arith))

  pub first_low : (count : ℕ) → Listable w n from at count side → 0 < count → get_or w (from + n * mark_block) 0 ≤ 1
  first_low count y h = let e : from + n * mark_block + 0 ≡ from + n * mark_block = omega arith in rw e at (mark_low count 0 y h)

  -- ---- one

  module _ (y : Listable w n from at 1 side) where
    abbrev first₁ : List ℕ
    first₁ = set w (at + n * member_block) (get_or w (from + n * member_block) 0)

    abbrev second₁ : List ℕ
    second₁ = set first₁ (at + n * mark_block) ((get_or w (from + n * mark_block) 0 + side) % 2)

    pub members_one : Members (set
        (set (set w (at + n * member_block) (get_or w (from + n * member_block) 0)) (at + n * mark_block) ((get_or w (from + n * mark_block) 0 + side) % 2))
        (at + n * listing_block) (get_or w (from + n * listing_block) 0)) w n from at 1 side
    members_one =
        let b : at + n * listing_block < length w = omega (arith, y.fits, y.beyond, y.inside) in
        record {
          copied = first₁;
          marked = second₁;
          members =
              subst (HoldsFrom first₁ w (at + n * member_block) 1) (sym (slice_one w (from + n * member_block) (omega (arith, y.inside))))
              (one_put w (at + n * member_block) (get_or w (from + n * member_block) 0) (omega arith));
          marks =
              subst (HoldsFrom second₁ first₁ (at + n * mark_block) 1) (ap (turned_by side) (sym (slice_one w (from + n * mark_block) (omega (arith, y.inside)))))
              (one_put first₁ (at + n * mark_block) ((get_or w (from + n * mark_block) 0 + side) % 2) (simp length-set (omega arith)));
          listing =
              subst (HoldsFrom (set second₁ (at + n * listing_block) (get_or w (from + n * listing_block) 0)) second₁ (at + n * listing_block) 1)
              (sym (ap (passed_by side) (slice_one w (from + n * listing_block) (omega (arith, y.inside))) ∙ passed_one side (get_or w (from + n * listing_block) 0) y.one))
              (one_put second₁ (at + n * listing_block) (get_or w (from + n * listing_block) 0) (simp length-set (omega arith)));
        }

  -- ---- two

  module _ (y : Listable w n from at 2 side) where
    abbrev first₂ : List ℕ
    first₂ = set (set w (at + n * member_block) (get_or w (from + n * member_block) 0)) (at + n * member_block + 1) (get_or w (from + n * member_block + 1) 0)

    abbrev second₂ : List ℕ
    second₂ =
        set (set first₂ (at + n * mark_block) ((get_or w (from + n * mark_block) 0 + side) % 2)) (at + n * mark_block + 1) ((get_or w (from + n * mark_block + 1) 0 + side) % 2)

    pub members_two : Members (set
        (set
        (set
        (set
        (set (set w (at + n * member_block) (get_or w (from + n * member_block) 0)) (at + n * member_block + 1) (get_or w (from + n * member_block + 1) 0))
        (at + n * mark_block) ((get_or w (from + n * mark_block) 0 + side) % 2))
        (at + n * mark_block + 1) ((get_or w (from + n * mark_block + 1) 0 + side) % 2))
        (at + n * listing_block) (get_or w (from + n * listing_block + side) 0))
        (at + n * listing_block + 1) (get_or w (from + n * listing_block + (1 - side)) 0)) w n from at 2 side
    members_two =
        let b : at + n * listing_block + 2 ≤ length w = omega (arith, y.fits, y.beyond, y.inside) in
        let ahead = get_or w (from + n * listing_block + side) 0 in
        let behind = get_or w (from + n * listing_block + (1 - side)) 0 in
        record {
          copied = first₂;
          marked = second₂;
          members =
              subst (HoldsFrom first₂ w (at + n * member_block) 2) (sym (slice_two w (from + n * member_block) (omega (arith, y.inside))))
              (two_put w (at + n * member_block) (get_or w (from + n * member_block) 0) (get_or w (from + n * member_block + 1) 0) (omega arith));
          marks =
              subst (HoldsFrom second₂ first₂ (at + n * mark_block) 2) (ap (turned_by side) (sym (slice_two w (from + n * mark_block) (omega (arith, y.inside)))))
              (two_put first₂ (at + n * mark_block) ((get_or w (from + n * mark_block) 0 + side) % 2) ((get_or w (from + n * mark_block + 1) 0 + side) % 2) (simp length-set (omega arith)));
          listing =
              subst (HoldsFrom (set (set second₂ (at + n * listing_block) ahead) (at + n * listing_block + 1) behind) second₂ (at + n * listing_block) 2)
              (sym (ap (passed_by side) (slice_two w (from + n * listing_block) (omega (arith, y.inside))) ∙ passed_two w (from + n * listing_block) side y.one))
              (two_put second₂ (at + n * listing_block) ahead behind (simp length-set (omega arith)));
        }
