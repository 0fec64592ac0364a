-- A selection of d ends has at most d / 2 pairs, each of two ends of the list, the lower first: every pair that is taken uses up two ends that were free.
use Prim.Native.Nat.{ℕ, zero, suc, ◌+◌, ◌*◌, ◌≤◌, ◌<◌}
use mathlib.Core.Path.{◌≡◌, refl, sym, ◌∙◌, ap}
use mathlib.Core.Bool.{Bool, true, false, not, ◌||◌, or-false}
use mathlib.Core.Logic.{◌⊎◌, inl, inr}
use mathlib.Core.List.{List, [], ◌∷◌}
use native.Mathlib.Omega.{arith}
use lib.ListN.{length}
use lib.Dec.{eqb}
use borrow.Author.Tests.{eq-eqb, ne_eqb}
use Rattle.rules.specs.Lists.{one}
use Rattle.pair_laws.specs.Ranked.{RankedPair, Node, candidates, before, sort, mark, busy, greedy, none, select_from, select}
use Rattle.pair_laws.specs.Sets.{In}
use Rattle.pair_laws.proofs.Order.{two, Three, three}
use Rattle.pair_laws.proofs.Sort.{in_sort}
use Rattle.pair_laws.proofs.Greedy.{or_false_left, or_false_right, greedy_nil, greedy_busy, greedy_free}
use Rattle.pair_laws.proofs.Laws.{in_candidates}

-- how many of the ends below d are free
frees : (ℕ → Bool) → ℕ → ℕ
frees used zero = 0
frees used (suc d) = one (not (used d)) + frees used d

frees_le : (used : ℕ → Bool) (d : ℕ) → frees used d ≤ d
unfolding frees
frees_le used zero = omega arith
frees_le used (suc d) = go (used d) (frees_le used d)
  where
    go : (b : Bool) → frees used d ≤ d → one (not b) + frees used d ≤ suc d
    go true h = omega arith
    go false h = omega arith

-- one end more is taken
module _ (used used' : ℕ → Bool) (i : ℕ) (free : used i ≡ false) (taken : used' i ≡ true) (others : (e : ℕ) → (e ≡ i → ⊥) → used' e ≡ used e) where
  frees_below : (d : ℕ) → d ≤ i → frees used' d ≡ frees used d
  unfolding frees
  frees_below zero h = refl
  frees_below (suc d) h = rw (others d (λ e. omega arith), frees_below d (omega arith))

  frees_less : (d : ℕ) → i < d → frees used d ≡ 1 + frees used' d
  unfolding frees
  frees_less zero h = absurd (omega arith)
  frees_less (suc d) h = go (three i d) (frees_less d)
    where
      go : Three i d → (i < d → frees used d ≡ 1 + frees used' d)
          → one (not (used d)) + frees used d ≡ 1 + (one (not (used' d)) + frees used' d)
      go (inl k) ih = rw (others d (λ e. omega arith)) (omega (arith, ih k))
      go (inr (inl k)) ih = rw (ap used (sym k) ∙ free, ap used' (sym k) ∙ taken, frees_below d (omega arith)) (omega arith)
      go (inr (inr k)) ih = absurd (omega arith)

-- a pair is taken
frees_mark : (used : ℕ → Bool) (p : RankedPair) (d : ℕ) → p.i < p.j → p.j < d → busy used p ≡ false → frees used d ≡ 2 + frees (mark p used) d
unfolding busy mark
frees_mark used p d h k f =
    omega (
      arith,
      frees_less used first p.i free_i (rw (eq-eqb p.i p.i refl)) (λ e n. rw (ne_eqb e p.i n)) d (omega arith),
      frees_less first (mark p used) p.j still then past d k,
    )
  where
    free_i : used p.i ≡ false
    free_i = or_false_left (used p.i) (used p.j) f

    -- the lower end taken
    first : ℕ → Bool
    first e = eqb e p.i || used e

    still : first p.j ≡ false
    still = rw (ne_eqb p.j p.i (λ e. omega arith)) (or_false_right (used p.i) (used p.j) f)

    then : mark p used p.j ≡ true
    then = rw (ne_eqb p.j p.i (λ e. omega arith), eq-eqb p.j p.j refl)

    past : (e : ℕ) → (e ≡ p.j → ⊥) → mark p used e ≡ first e
    past e n = rw (ne_eqb e p.j n, or-false (eqb e p.i))

greedy_room : (used : ℕ → Bool) (d : ℕ) (l : List RankedPair) → ((q : RankedPair) → In q l → (q.i < q.j) × (q.j < d)) → 2 * length (greedy used l) ≤ frees used d
greedy_room used d [] h = rw (greedy_nil used) (omega arith)
greedy_room used d (p ∷ l) h = go (two (busy used p)) (greedy_room used d l (λ q m. h q (inr m))) (greedy_room (mark p used) d l (λ q m. h q (inr m)))
  where
    go : (busy used p ≡ true) ⊎ (busy used p ≡ false) → 2 * length (greedy used l) ≤ frees used d → 2 * length (greedy (mark p used) l) ≤ frees (mark p used) d
        → 2 * length (greedy used (p ∷ l)) ≤ frees used d
    go (inl b) ih ih' = rw (greedy_busy used p l b) ih
    go (inr b) ih ih' = rw (greedy_free used p l b) (omega (arith, frees_mark used p d (h p (inl refl)).0 (h p (inl refl)).1 b))

taken_room : (d : ℕ) (l : List RankedPair) → ((q : RankedPair) → In q l → (q.i < q.j) × (q.j < d)) → 2 * length (greedy none (sort before l)) ≤ d
taken_room d l h = omega (arith, greedy_room none d (sort before l) (λ q m. h q (in_sort before q l m)), frees_le none d)

pub ranked_room : (n : Node) (limit : ℕ) → 2 * length (select n limit) ≤ n.d
unfolding select select_from
ranked_room n limit = taken_room n.d (candidates n limit) (λ q m. (let e = (in_candidates n limit q m).0 in (e.lower, e.below)))

-- ---- the book's selection
