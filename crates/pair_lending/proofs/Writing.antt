-- The three parts of the lent ends, written one behind another: the whole is one writing, and each part stands where a route reads it.
use Prim.Native.Nat.{ℕ, ◌+◌, ◌*◌, ◌≤◌}
use mathlib.Core.Path.{◌≡◌, ◌∙◌, ap, subst}
use mathlib.Core.List.{List, ◌++◌, map}
use native.Mathlib.Omega.{arith}
use lib.Ieee.{Float}
use lib.ListN.{length, drop}
use lib.Seq.{slice}
use Rattle.rules.specs.Plane.{float}
use Rattle.rules.specs.Calls.{written}
use Rattle.float_bits.specs.Bits.{bits_of}
use Rattle.point_slices.specs.Holds.{HoldsFrom}
use Rattle.point_slices.proofs.Laws.{from_length, from_part, from_then, slice_below}
use Rattle.pair_ends.specs.Blocks.{pieces_from, pairs_from}
use Rattle.pair_ends.proofs.Reading.{ends_in_lent}
use Rattle.pair_lending.specs.Lent.{lent_words, Matched, DirectionsKept, Put}
use Rattle.pair_lending.proofs.Copies.{floats_kept}

-- what is written from the beginning on is written over it
from_nought : {l' l : List ℕ} {r : ℕ} {out : List ℕ} → HoldsFrom l' l 0 r out → l' ≡ written out l
unfolding written
from_nought {l'} {l} {r} {out} h =
    let e : 0 + r ≡ length out = omega (arith, h.count) in
    h.list ∙ ap (λ (k : ℕ). out ++ drop k l) e

module _
    {w₃ w₂ w₁ w present : List ℕ}
    {directions : List Float}
    {pieces : List ℕ}
    (m : Matched w present directions pieces)
    (a : HoldsFrom w₁ w 0 (length present) present)
    (b : DirectionsKept w₂ w₁ (length pieces) directions)
    (c : HoldsFrom w₃ w₂ (length pieces * pieces_from) (length pieces) pieces) where
  long₁ : length w₁ ≡ length w
  long₁ = from_length a (omega (arith, m.marked, m.room.long))

  within₂ : length pieces + length directions ≤ length w₁
  within₂ = omega (arith, m.directed, m.room.long, long₁)

  within₃ : length pieces * pieces_from + length pieces ≤ length w₂
  within₃ = omega (arith, from_length b.holds within₂, m.room.long, long₁)

  -- one behind another
  first_two : HoldsFrom w₂ w 0 (length present + length directions) (present ++ map bits_of directions)
  first_two =
      let e : length pieces ≡ 0 + length present = omega (arith, m.marked) in
      from_then a (omega (arith, m.marked, m.room.long)) (subst (λ (k : ℕ). HoldsFrom w₂ w₁ k (length directions) (map bits_of directions)) e b.holds)

  all_three : HoldsFrom w₃ w 0 (length present + length directions + length pieces) (present ++ map bits_of directions ++ pieces)
  all_three =
      let e : length pieces * pieces_from ≡ 0 + (length present + length directions) = omega (arith, m.marked, m.directed) in
      from_then first_two (omega (arith, m.marked, m.directed, m.room.long)) (subst (λ (k : ℕ). HoldsFrom w₃ w₂ k (length pieces) pieces) e c)

  -- each where it is read
  marks_there : slice 0 (length pieces) w₃ ≡ present
  marks_there =
      let e : length pieces ≡ 0 + length present = omega (arith, m.marked) in
      slice_below c within₃ 0 (length pieces) (omega arith)
      ∙ slice_below b.holds within₂ 0 (length pieces) (omega arith)
      ∙ ap (λ (k : ℕ). slice 0 k w₁) e
      ∙ from_part a (omega (arith, m.marked, m.room.long))

  directions_there : map float (slice (length pieces) (length pieces * pieces_from) w₃) ≡ directions
  directions_there =
      let e : length pieces * pieces_from ≡ length pieces + length directions = omega (arith, m.directed) in
      ap (map float)
      (slice_below c within₃ (length pieces) (length pieces * pieces_from) (omega arith)
      ∙ ap (λ (k : ℕ). slice (length pieces) k w₂) e
      ∙ from_part b.holds within₂)
      ∙ floats_kept directions b.doubles

  pieces_there : slice (length pieces * pieces_from) (length pieces * pairs_from) w₃ ≡ pieces
  pieces_there =
      let e : length pieces * pairs_from ≡ length pieces * pieces_from + length pieces = omega arith in
      ap (λ (k : ℕ). slice (length pieces * pieces_from) k w₃) e ∙ from_part c within₃

  pub put_three : Put w₃ w present directions pieces
  unfolding lent_words
  put_three = record {
    list = from_nought all_three;
    held = ends_in_lent w₃ (length pieces) present pieces directions marks_there directions_there pieces_there;
  }
