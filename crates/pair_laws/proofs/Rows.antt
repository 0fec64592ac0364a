-- The row of a taken end has no free pair.
use Prim.Native.Nat.{ℕ}
use mathlib.Core.Path.{◌≡◌, sym}
use mathlib.Core.Bool.{Bool, true, false}
use mathlib.Core.Logic.{inl}
use mathlib.Core.List.{List}
use Rattle.pair_laws.specs.Ranked.{RankedPair, busy}
use Rattle.pair_laws.specs.Sets.{In}
use Rattle.pair_laws.proofs.Lazy.{taken_end}

module _ (used : ℕ → Bool) (l : List RankedPair) where
  pub row_taken : (i : ℕ) → used i ≡ true → (q : RankedPair) → In q l → busy used q ≡ false → q.i ≡ i → ⊥
  row_taken i u q m b e = taken_end used i u q b (inl (sym e))
