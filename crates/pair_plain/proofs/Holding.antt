-- What a row holds: no pair, and then none of its pairs is free; or a qualifying pair that is at or before each of them. It stays so while ends are taken.
-- The least pair held, if it is free, is the least free pair of all.
use Prim.Native.Nat.{ℕ, ◌≤◌, ◌<◌}
use mathlib.Core.Path.{◌≡◌, refl, sym, ap, ◌∙◌, subst}
use mathlib.Core.Bool.{Bool, true, false}
use mathlib.Core.Logic.{◌⊎◌, inl, inr, ⊎_elim}
use mathlib.Core.List.{List, [], ◌∷◌}
use native.Mathlib.Omega.{arith}
use lib.Dec.{eqb, leb}
use borrow.Author.Tests.{eqb-true, eqb-false, leb-true}
use Rattle.float_order.specs.Key.{key_nan}
use Rattle.pair_laws.specs.Ranked.{RankedPair, Node, candidates, qualifies, busy, before, mark, sort, greedy, none, select_from, select}
use Rattle.pair_laws.specs.Sets.{In, Least}
use Rattle.pair_laws.specs.Taking.{IsFirst}
use Rattle.pair_laws.proofs.Order.{two, tf, Three, three, and_right, irrefl, least_trans, of_at_before}
use Rattle.pair_laws.proofs.Greedy.{or_false_left, free_less, greedy_nil, greedy_busy, greedy_free}
use Rattle.pair_laws.proofs.Sort.{in_sort}
use Rattle.pair_laws.proofs.Laws.{in_candidates}
use Rattle.pair_laws.proofs.Rows.{row_taken}

pub record Holding (n : Node) (limit : ℕ) (used : ℕ → Bool) (i : ℕ) (p : RankedPair) : Type 0 where
  pub nothing : key_nan ≤ p.key → (q : RankedPair) → In q (candidates n limit) → busy used q ≡ false → q.i ≡ i → ⊥
  pub member : p.key < key_nan → In p (candidates n limit)
  pub first : p.key < key_nan → (q : RankedPair) → In q (candidates n limit) → busy used q ≡ false → q.i ≡ i → before q p ≡ false

module _ (n : Node) (limit : ℕ) (low : limit < key_nan) where
  -- a candidate's key is at or below the limit
  pub candidate_low : (p : RankedPair) → In p (candidates n limit) → p.key < key_nan
  unfolding qualifies
  candidate_low p m = omega (arith, leb-true p.key limit (and_right (n.may p.i p.j) (leb p.key limit) (in_candidates n limit p m).1))

  -- a row that was just gone through
  pub holding_first : (used : ℕ → Bool) (i : ℕ) (p : RankedPair) → IsFirst n limit used i p → (p.j ≡ 0 → p.key ≡ key_nan) → Holding n limit used i p
  holding_first used i p f e =
      record {
        nothing = λ k. f.nothing (unmet k (two (eqb p.j 0)));
        member = λ k. f.member (met k);
        first = λ k. f.first (met k);
      }
    where
      unmet : key_nan ≤ p.key → (eqb p.j 0 ≡ true) ⊎ (eqb p.j 0 ≡ false) → p.j ≡ 0
      unmet k (inl a) = eqb-true p.j 0 a
      unmet k (inr a) = absurd (omega (arith, candidate_low p (f.member (omega (arith, eqb-false p.j 0 a)))))

      met : p.key < key_nan → 0 < p.j
      met k = go (two (eqb p.j 0))
        where
          go : (eqb p.j 0 ≡ true) ⊎ (eqb p.j 0 ≡ false) → 0 < p.j
          go (inl a) = absurd (omega (arith, e (eqb-true p.j 0 a)))
          go (inr a) = omega (arith, eqb-false p.j 0 a)

module _ (n : Node) (limit : ℕ) where
  -- more ends are taken
  pub holding_mark : (used : ℕ → Bool) (i : ℕ) (p q : RankedPair) → Holding n limit used i p → Holding n limit (mark q used) i p
  holding_mark used i p q h =
      record {
        nothing = λ k x m b. h.nothing k x m (free_less q x used b).1;
        member = h.member;
        first = λ k x m b. h.first k x m (free_less q x used b).1;
      }

  -- the row of a taken end
  pub holding_none : (used : ℕ → Bool) (i : ℕ) (p : RankedPair) → used i ≡ true → p.key ≡ key_nan → Holding n limit used i p
  holding_none used i p u e =
      record {
        nothing = λ _ q m b. row_taken used (candidates n limit) i u q m b;
        member = λ k. absurd (omega arith);
        first = λ k. absurd (omega arith);
      }

  -- a taken end's row holds none when it is gone through
  pub idle_first : (used : ℕ → Bool) (i : ℕ) (p : RankedPair) → IsFirst n limit used i p → (p.j ≡ 0 → p.key ≡ key_nan) → used i ≡ true → p.key ≡ key_nan
  unfolding busy
  idle_first used i p f e u = go (two (eqb p.j 0))
    where
      go : (eqb p.j 0 ≡ true) ⊎ (eqb p.j 0 ≡ false) → p.key ≡ key_nan
      go (inl a) = e (eqb-true p.j 0 a)
      go (inr a) =
          let k : 0 < p.j = omega (arith, eqb-false p.j 0 a) in
          absurd (tf u (ap used (sym (f.here k)) ∙ or_false_left (used p.i) (used p.j) (f.free k)))

  -- ---- all rows

  inside : (q : RankedPair) → In q (candidates n limit) → q.i < n.d
  inside q m = (let t = (in_candidates n limit q m).0 in omega (arith, t.lower, t.below))

  module _ (used : ℕ → Bool) (row : ℕ → RankedPair) (held : (x : ℕ) → x < n.d → Holding n limit used x (row x)) where
    -- no row holds a pair
    pub none_free : ((x : ℕ) → x < n.d → key_nan ≤ (row x).key) → (q : RankedPair) → In q (candidates n limit) → busy used q ≡ true
    none_free all q m =
        ⊎_elim
        (λ (b : busy used q ≡ true). b)
        (λ (b : busy used q ≡ false). absurd ((held q.i (inside q m)).nothing (all q.i (inside q m)) q m b refl))
        (two (busy used q))

    -- the least pair held, of equals in the first row, and it is free
    pub least_held : (i : ℕ) → i < n.d → (row i).key < key_nan → ((x : ℕ) → x < n.d → (row i).key ≤ (row x).key) → ((x : ℕ) → x < n.d → (row x).key ≡ (row i).key → i ≤ x)
        → ((x : ℕ) → (row x).i ≡ x) → busy used (row i) ≡ false → Least used (candidates n limit) (row i)
    least_held i h k least first named free =
        record {
          member = (held i h).member k;
          free = free;
          first = λ q m b. (let x = inside q m in least_trans (row i) (row q.i) q (before_row q.i x) ((held q.i x).first (below q m b) q m b refl));
        }
      where
        -- a row with a free pair holds one
        below : (q : RankedPair) → In q (candidates n limit) → busy used q ≡ false → (row q.i).key < key_nan
        below q m b = go (three (row q.i).key key_nan)
          where
            go : Three (row q.i).key key_nan → (row q.i).key < key_nan
            go (inl a) = a
            go (inr (inl a)) = absurd ((held q.i (inside q m)).nothing (omega arith) q m b refl)
            go (inr (inr a)) = absurd ((held q.i (inside q m)).nothing (omega arith) q m b refl)

        before_row : (x : ℕ) → x < n.d → before (row x) (row i) ≡ false
        before_row x g = by_key (three (row i).key (row x).key)
          where
            by_row : (row i).key ≡ (row x).key → Three i x → before (row x) (row i) ≡ false
            by_row e (inl a) = of_at_before (row i) (row x) (inr (e, inl (omega (arith, named i, named x))))
            by_row e (inr (inl a)) = subst (λ (y : ℕ). before (row y) (row i) ≡ false) a (irrefl (row i))
            by_row e (inr (inr a)) = absurd (omega (arith, first x g (sym e)))

            by_key : Three (row i).key (row x).key → before (row x) (row i) ≡ false
            by_key (inl a) = of_at_before (row i) (row x) (inl a)
            by_key (inr (inl a)) = by_row a (three i x)
            by_key (inr (inr a)) = absurd (omega (arith, least x g))

-- ---- ends of which no pair qualifies may as well be taken

-- taking looks at the pairs' ends alone
greedy_same : (used used' : ℕ → Bool) (l : List RankedPair) → ((p : RankedPair) → In p l → (used p.i ≡ used' p.i) × (used p.j ≡ used' p.j)) → greedy used l ≡ greedy used' l
unfolding busy mark
greedy_same used used' [] h = greedy_nil used ∙ sym (greedy_nil used')
greedy_same used used' (p ∷ l) h = go (two (busy used p)) (greedy_same used used' l (λ q m. h q (inr m))) (greedy_same (mark p used) (mark p used') l (λ q m. marked q (h q (inr m))))
  where
    marked : (q : RankedPair) → (used q.i ≡ used' q.i) × (used q.j ≡ used' q.j) → (mark p used q.i ≡ mark p used' q.i) × (mark p used q.j ≡ mark p used' q.j)
    marked q t = (rw t.0, rw t.1)

    alike : busy used p ≡ busy used' p
    alike = (let t = h p (inl refl) in rw (t.0, t.1))

    go : (busy used p ≡ true) ⊎ (busy used p ≡ false) → greedy used l ≡ greedy used' l → greedy (mark p used) l ≡ greedy (mark p used') l → greedy used (p ∷ l) ≡ greedy used' (p ∷ l)
    go (inl b) ih ih' = greedy_busy used p l b ∙ ih ∙ sym (greedy_busy used' p l (sym alike ∙ b))
    go (inr b) ih ih' = greedy_free used p l b ∙ ap (λ (r : List RankedPair). p ∷ r) ih' ∙ sym (greedy_free used' p l (sym alike ∙ b))

pub select_out : (n : Node) (limit : ℕ) (used : ℕ → Bool) → ((q : RankedPair) → In q (candidates n limit) → (used q.i ≡ false) × (used q.j ≡ false)) → select_from n limit used ≡ select n limit
unfolding select select_from none
select_out n limit used h = greedy_same used none (sort before (candidates n limit)) (λ q m. h q (in_sort before q (candidates n limit) m))
