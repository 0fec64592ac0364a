-- A scan that asks each number below d the same question, and the questions whether a direction is tame, and whether it is in the disk.
use Prim.Native.Nat.{ℕ, ◌<◌}
use mathlib.Core.Path.{◌≡◌, refl, sym, ◌∙◌, ap, subst}
use mathlib.Core.Bool.{Bool, true, false}
use mathlib.Core.List.{List}
use native.Mathlib.Omega.{arith}
use lib.Dec.{T}
use lib.ListN.{length, get_or}
use denote.Param.Members.{Mut}
use Rattle.std.specs.Bool.{MatchBool}
use Rattle.std.specs.Fn.{Called}
use Rattle.std.specs.Iterator.{YieldsThen}
use Rattle.std.specs.List.{range_with_len, FoldsTo, AllWithin, HoldsAt}
use Rattle.std.specs.Option.{MatchOption}
use Rattle.std.proofs.Common.{Option, zero-add}
use Rattle.std.specs.declared.ops.Range.{Range}
use Rattle.std.proofs.iter.Yields.{nat_range_steps}
use Rattle.std.proofs.lemmas.Iterator.{YieldsList-from_range, cases_from_all}
use Rattle.std.proofs.lemmas.List.FromFn.{get_or-range_with_len, length-range_with_len}
use lib.Ieee.{Float}
use lib.Ieee.Scale.{finite}
use Rattle.rules.specs.Answers.{Toward}
use Rattle.pair_laws.proofs.Order.{tf, and_left, and_right}
use Rattle.pair_bounds.specs.Box.{round_way}
use Rattle.pair_all_directions.specs.Around.{Every, tame, round_of}

-- ---- one direction

pub tame_parts : (x y : Float) → tame (Toward x y) ≡ true → T (finite x) × T (finite y)
unfolding tame
tame_parts x y h = (subst T (sym (and_left (finite x) (finite y) h)) tt, subst T (sym (and_right (finite x) (finite y) h)) tt)

pub round_part : (x y : Float) → round_of (Toward x y) ≡ true → T (round_way x y)
unfolding round_of
round_part x y h = subst T (sym h) tt

-- ---- the scan

module _ (p : ℕ → Bool) (d : ℕ) where
  -- what p is of the number at e
  at : (e : ℕ) → e < length (range_with_len 0 d) → p (get_or (range_with_len 0 d) e 0) ≡ p e
  at e l = ap p (get_or-range_with_len 0 d e 0 (omega (arith, length-range_with_len 0 d)) ∙ zero-add e)

  told : (r : Bool) → MatchBool r (AllWithin (λ k. p k ≡ true) (range_with_len 0 d) 0 (length (range_with_len 0 d)))
      ((k : ℕ) × (k < length (range_with_len 0 d)) × HoldsAt (λ k. p k ≡ false) (range_with_len 0 d) k) → Every p d r
  told true h =
      record {
        yes = λ z e l. let m : e < length (range_with_len 0 d) = omega (arith, length-range_with_len 0 d) in sym (at e m) ∙ h e 0 (omega arith) m;
        other = λ z. absurd (tf refl z);
      }
  told false h =
      record {
        yes = λ z. absurd (tf z refl);
        other = λ z. (h.0, omega (arith, length-range_with_len 0 d, h.1), sym (at h.0 h.1) ∙ h.2 0);
      }

  -- `all` over the numbers below d, of a closure that answers p
  pub every_from_all : {F : Type 0} {g : Mut F (ℕ × Unit {0}) Bool} {s u : Range ℕ} {f : F} {r : Bool}
      → (xs : List ℕ) × (o : Option ℕ) × (j : F) × YieldsThen nat_range_steps s xs o u × FoldsTo (λ p x q. Called g p (x, tt) true q) f xs j
      × MatchOption o (r ≡ true) (λ x. (r ≡ false) × ((h : F) × Called g j (x, tt) false h))
      → s ≡ record { start = 0; end = d } → ((x : ℕ) (b : Bool) (q : F) → Called g f (x, tt) b q → (q ≡ f) × (b ≡ p x)) → Every p d r
  every_from_all {F} {g} {s} {u} {f} {r} ran e k =
      told r (cases_from_all u f r (λ x. p x ≡ true) (λ x. p x ≡ false) ran (YieldsList-from_range 0 d d e (omega arith)) (λ x q l. let t = k x true q l in (t.0, sym t.1))
      (λ x q l. sym (k x false q l).1))
