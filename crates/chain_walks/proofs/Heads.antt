-- One step of `back` over a table of joins, by what stands in the table at the end e.
use Prim.Native.Nat.{ℕ, suc, ◌+◌, ◌-◌, ◌*◌, ◌/◌, ◌≤◌, ◌<◌}
use mathlib.Core.Path.{◌≡◌, refl, ap}
use mathlib.Core.Logic.{◌≢◌}
use mathlib.Core.List.{List}
use native.Mathlib.Omega.{arith}
use lib.ListN.{get_or}
use borrow.Author.Tests.{eq-eqb, ne_eqb}
use Rattle.rules.specs.Walking.{piece_of, other, back}
use Rattle.chain_laws.specs.Table.{decode, from_table}

pub read : (t : List ℕ) (e m : ℕ) → get_or t e 0 ≡ m → from_table t e ≡ decode m
unfolding from_table
read t e m h = ap decode h

module _ (t : List ℕ) (s n k e : ℕ) (h : k < n) where
  left : n - k ≡ suc (n - (k + 1))
  left = omega arith

  pub back_free : get_or t e 0 ≡ 0 → back (from_table t) s (n - k) e ≡ e
  unfolding back decode
  back_free q = rw left (rw (read t e 0 q, back))

  pub back_ring : (g : ℕ) → get_or t e 0 ≡ suc g → g / 2 ≡ s → back (from_table t) s (n - k) e ≡ 2 * s
  unfolding back decode
  back_ring g q r = rw left (rw (read t e (suc g) q, eq-eqb (piece_of g) s r, back))

  pub back_on : (g : ℕ) → get_or t e 0 ≡ suc g → g / 2 ≢ s → back (from_table t) s (n - k) e ≡ back (from_table t) s (n - (k + 1)) (other g)
  unfolding back decode
  back_on g q r = rw left (rw (read t e (suc g) q, ne_eqb (piece_of g) s r, back))

pub back_done : (t : List ℕ) (s n k e : ℕ) → n ≤ k → back (from_table t) s (n - k) e ≡ 2 * s
unfolding back
back_done t s n k e h = rw (done) refl
  where
    done : n - k ≡ 0
    done = omega arith
