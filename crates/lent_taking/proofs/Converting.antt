-- Numbers put as the words that they convert to, one by one; those that convert to themselves stand as they are.
use Prim.Native.Nat.{ℕ, ◌+◌, ◌≤◌, ◌<◌}
use mathlib.Core.Path.{◌≡◌, sym, ap, ◌∙◌, subst}
use mathlib.Core.List.{[], List, ◌∷◌, ◌++◌}
use native.Mathlib.Omega.{arith}
use lib.ListN.{length, get_or, set, take}
use lib.Seq.{length-take-le}
use Rattle.std.proofs.lemmas.List.{take_more, length_push, map-id}
use Rattle.std.proofs.lemmas.Slice.Zip.{all_zipped_more, AllZip-map}
use Rattle.point_slices.specs.Holds.{HoldsFrom}
use Rattle.point_slices.proofs.Laws.{from_set}
use Rattle.lent_taking.specs.Taking.{Converted}

module _ {T : Type 0} (R : T → ℕ → Type 0) (numbers : List T) (w' w : List ℕ) (at i : ℕ) where
  pub converted_more : (x : T) (n : ℕ) → Converted R (take i numbers) w' w at → at + length numbers ≤ length w → i < length numbers → x ≡ get_or numbers i x → R x n
      → Converted R (take (i + 1) numbers) (set w' (at + i) n) w at
  converted_more x n c room low e r =
      let more : take (i + 1) numbers ≡ take i numbers ++ (x ∷ []) = take_more numbers i x low ∙ ap (λ (y : T). take i numbers ++ (y ∷ [])) (sym e) in
      let long : length (take i numbers) ≡ i = length-take-le i numbers (omega arith) in
      let put = from_set c.2 (omega arith) n in
      rw (more, length_push, long) (c.0 ++ (n ∷ []), all_zipped_more R (take i numbers) c.0 x n c.1 r, rw long at put)

pub same_converted : (numbers : List ℕ) {w' w : List ℕ} {at : ℕ} → Converted (λ x n. n ≡ x) numbers w' w at → HoldsFrom w' w at (length numbers) numbers
same_converted numbers {w'} {w} {at} c = subst (HoldsFrom w' w at (length numbers)) (AllZip-map (λ (x : ℕ). x) numbers c.0 c.1 ∙ map-id numbers) c.2
