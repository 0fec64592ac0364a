-- Stores in one part of a lent slice, one after another, change that part alone.
use Prim.Native.Nat.{ℕ, ◌≤◌, ◌<◌}
use mathlib.Core.Path.{◌≡◌, refl, ◌∙◌}
use mathlib.Core.List.{List}
use native.Mathlib.Omega.{arith}
use lib.ListN.{set, length-set}
use lib.Seq.{get_or-set_other}
use Rattle.pair_tree.specs.Words.{Changes}

pub changes_none : (w : List ℕ) (a b : ℕ) → Changes w w a b
changes_none w a b = record { long = refl; below = λ k h. refl; beyond = λ k h. refl }

pub changes_then : {u v w : List ℕ} {a b : ℕ} → Changes u v a b → Changes v w a b → Changes u w a b
changes_then f g =
    record { long = g.long ∙ f.long; below = λ k h. g.below k h ∙ f.below k h; beyond = λ k h. g.beyond k h ∙ f.beyond k h }

pub changes_wider : {u v : List ℕ} {a b : ℕ} (c e : ℕ) → c ≤ a → b ≤ e → Changes u v a b → Changes u v c e
changes_wider c e p q f = record { long = f.long; below = λ k h. f.below k (omega arith); beyond = λ k h. f.beyond k (omega arith) }

pub changes_set : (w : List ℕ) (i v a b : ℕ) → a ≤ i → i < b → Changes w (set w i v) a b
changes_set w i v a b p q =
    record {
      long = simp length-set;
      below = λ k h. get_or-set_other w i k v 0 (apart k h);
      beyond = λ k h. get_or-set_other w i k v 0 (away k h);
    }
  where
    apart : (k : ℕ) → k < a → k ≡ i → ⊥
    apart k h e = omega arith

    away : (k : ℕ) → b ≤ k → k ≡ i → ⊥
    away k h e = omega arith
