-- The cases of `leading_of`: too few digits or too many, and the bits above those of 1/2.
use mathlib.Core.Path.{◌≡◌}
use mathlib.Core.Logic.{◌⊎◌, inl, inr}
use Prim.Native.Nat.{ℕ, ◌+◌, ◌-◌, ◌*◌, ◌^◌, ◌≤◌, ◌<◌}
use borrow.Author.Tests.{le-leb, lt-leb}
use Rattle.float_whole_root.specs.Guess.{leading_of}

pub outside : (n : ℕ) → (n < 1022 * 2 ^ 52 + 2) ⊎ ((1022 * 2 ^ 52 + 2 ≤ n) × (1024 * 2 ^ 52 < n)) → leading_of n ≡ 2
unfolding leading_of
outside n (inl h) = rw (lt-leb (1022 * 2 ^ 52 + 2) n h)
outside n (inr h) = rw (le-leb (1022 * 2 ^ 52 + 2) n h.0, lt-leb n (1024 * 2 ^ 52) h.1)

pub within : (n : ℕ) → 1022 * 2 ^ 52 + 2 ≤ n → n ≤ 1024 * 2 ^ 52 → leading_of n ≡ n - 1022 * 2 ^ 52
unfolding leading_of
within n h k = rw (le-leb (1022 * 2 ^ 52 + 2) n h, le-leb n (1024 * 2 ^ 52) k)
