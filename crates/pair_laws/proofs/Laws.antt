-- The laws of ranked selection: its candidates are the qualifying pairs; the least free candidate is the next pair selected; and what is selected
-- is settled in the candidates, as no other set of them is.
use Prim.Native.Nat.{ℕ, zero, suc, ◌<◌}
use mathlib.Core.Path.{◌≡◌, refl, sym, ◌∙◌, ap, subst}
use mathlib.Core.Bool.{Bool, true, false}
use mathlib.Core.Logic.{◌⊎◌, inl, inr, ⊎_elim}
use mathlib.Core.List.{List, [], ◌∷◌}
use native.Mathlib.Omega.{arith}
use Rattle.pair_laws.specs.Ranked.{RankedPair, Node, before, column, pairs, qualifies, candidates, sort, mark, busy, greedy, none, select_from, select}
use Rattle.pair_laws.specs.Sets.{In, Sorted, InOrder, shares, Blocked, Settled, Least, PairEnds}
use Rattle.pair_laws.proofs.Order.{tf, three, asym, least_trans, irrefl}
use Rattle.pair_laws.proofs.Lists.{in_append, append_in, in_keep, keep_in}
use Rattle.pair_laws.proofs.Sort.{in_sort, sort_in, sorted_sort}
use Rattle.pair_laws.proofs.Greedy.{step, stop, in_greedy, greedy_apart, greedy_order, greedy_blocked}
use Rattle.pair_laws.proofs.Unique.{unique_from}

-- ---- what is taken of a list of pairs, sorted

in_order : (l : List RankedPair) → Sorted before (sort before l)
in_order l = sorted_sort before (λ _. Unit {0}) (λ p q _ _. asym p q) (λ p q r _ _ _. least_trans p q r) l (λ _ _. tt)

all_free : (p : RankedPair) → busy none p ≡ false
all_free p = unfold busy none in refl

pub taken_settled : (l : List RankedPair) → Settled before shares l (greedy none (sort before l))
taken_settled l =
    record {
      within = λ p m. in_sort before p l (in_greedy none p (sort before l) m).0;
      apart = greedy_apart none (sort before l);
      blocked = λ p m. greedy_blocked none (sort before l) (in_order l) p (sort_in before p l m) (all_free p);
    }

pub taken_ordered : (l : List RankedPair) → InOrder before (greedy none (sort before l))
taken_ordered l = greedy_order none (sort before l) (in_order l)

-- one list in order is settled
pub settled_ordered : (l s : List RankedPair) → Settled before shares l s → InOrder before s → s ≡ greedy none (sort before l)
settled_ordered l s h o =
    unique_from none (sort before l) (in_order l) s
    (record {
      ordered = o;
      within = λ p m. sort_in before p l (h.within p m);
      free = λ p m. all_free p;
      apart = h.apart;
      blocked = λ p m. inr (h.blocked p (in_sort before p l m));
    })

-- a set that is settled in l, in whatever order, has the pairs that are taken of l: none of it blocks another, so that all of it is taken of itself
module _ (l s : List RankedPair) (h : Settled before shares l s) where
  own : List RankedPair
  own = greedy none (sort before s)

  own_in : (p : RankedPair) → In p own → In p s
  unfolding own
  own_in p m = (taken_settled s).within p m

  in_own : (p : RankedPair) → In p s → In p own
  unfolding own
  in_own p m =
      ⊎_elim (λ (k : In p (greedy none (sort before s))). k)
      (λ (k : Blocked before shares (greedy none (sort before s)) p).
      absurd (tf k.2 (ap (λ (q : RankedPair). before q p) (h.apart k.0 p ((taken_settled s).within k.0 k.1) m k.3) ∙ irrefl p)))
      ((taken_settled s).blocked p m)

  own_is : own ≡ greedy none (sort before l)
  own_is =
      settled_ordered l own
      (record {
        within = λ p m. h.within p (own_in p m);
        apart = λ p q m n. h.apart p q (own_in p m) (own_in q n);
        blocked =
            λ p m. ⊎_elim
            (λ (k : In p s). inl (in_own p k))
            (λ (k : Blocked before shares s p). inr (k.0, in_own k.0 k.1, k.2, k.3))
            (h.blocked p m);
      })
      (unfold own in taken_ordered s)

  pub settled_taken : (p : RankedPair) → In p s → In p (greedy none (sort before l))
  settled_taken p m = subst (In p) own_is (in_own p m)

  pub taken_settles : (p : RankedPair) → In p (greedy none (sort before l)) → In p s
  taken_settles p m = own_in p (subst (In p) (sym own_is) m)

-- what is taken depends on which pairs there are, and on nothing else
pub same_taken : (l l' : List RankedPair) → ((p : RankedPair) → In p l → In p l') → ((p : RankedPair) → In p l' → In p l)
    → greedy none (sort before l) ≡ greedy none (sort before l')
same_taken l l' f g =
    settled_ordered l' (greedy none (sort before l))
    (record {
      within = λ p m. f p ((taken_settled l).within p m);
      apart = (taken_settled l).apart;
      blocked = λ p m. (taken_settled l).blocked p (g p m);
    })
    (taken_ordered l)

-- ---- which pairs there are

in_column : (key : ℕ → ℕ → ℕ) (j n : ℕ) (q : RankedPair) → In q (column key j n) → (q.i < n) × (q.j ≡ j) × (q.key ≡ key q.i q.j)
unfolding column
in_column key j zero q h = absurd h
in_column key j (suc n) q (inl e) =
    (omega (arith, ap (λ (p : RankedPair). p.i) e), ap (λ (p : RankedPair). p.j) e, rw e refl)
in_column key j (suc n) q (inr m) = let t = in_column key j n q m in (omega (arith, t.0), t.1, t.2)

pub in_pairs : (key : ℕ → ℕ → ℕ) (d : ℕ) (q : RankedPair) → In q (pairs key d) → PairEnds key d q
unfolding pairs
in_pairs key zero q h = absurd h
in_pairs key (suc n) q h = ⊎_elim
    (λ (m : In q (column key n n)). let t = in_column key n n q m in record { lower = omega (arith, t.0, t.1); below = omega (arith, t.1); keyed = t.2 })
    (λ (m : In q (pairs key n)). let t = in_pairs key n q m in record { lower = t.lower; below = omega (arith, t.below); keyed = t.keyed })
    (in_append q (column key n n) (pairs key n) h)

column_in : (key : ℕ → ℕ → ℕ) (n : ℕ) (q : RankedPair) → q.i < n → q.key ≡ key q.i q.j → In q (column key q.j n)
unfolding column
column_in key zero q h e = absurd (omega arith)
column_in key (suc n) q h e = go (three q.i n) (λ k. column_in key n q k e)
  where
    go : (q.i < n) ⊎ ((q.i ≡ n) ⊎ (n < q.i)) → (q.i < n → In q (column key q.j n)) → In q (column key q.j (suc n))
    go (inl k) ih = inr (ih k)
    go (inr (inl k)) ih = inl (λ t. record { key = (e ∙ ap (λ (m : ℕ). key m q.j) k) t; i = k t; j = q.j })
    go (inr (inr k)) ih = absurd (omega arith)

pub pairs_in : (key : ℕ → ℕ → ℕ) (d : ℕ) (q : RankedPair) → PairEnds key d q → In q (pairs key d)
unfolding pairs
pairs_in key zero q h = absurd (omega (arith, h.below))
pairs_in key (suc n) q h = append_in q (column key n n) (pairs key n) (go (three q.j n) (pairs_in key n q))
  where
    go : (q.j < n) ⊎ ((q.j ≡ n) ⊎ (n < q.j)) → (PairEnds key n q → In q (pairs key n)) → In q (column key n n) ⊎ In q (pairs key n)
    go (inl k) ih = inr (ih (record { lower = h.lower; below = k; keyed = h.keyed }))
    go (inr (inl k)) ih = inl (subst (λ (m : ℕ). In q (column key m n)) k (column_in key n q (omega (arith, h.lower)) h.keyed))
    go (inr (inr k)) ih = absurd (omega (arith, h.below))

module _ (n : Node) (limit : ℕ) where
  -- the candidates are the qualifying pairs
  pub in_candidates : (q : RankedPair) → In q (candidates n limit) → PairEnds n.key n.d q × (qualifies n limit q ≡ true)
  unfolding candidates
  in_candidates q h =
      let t = in_keep (qualifies n limit) q (pairs n.key n.d) h in
      (in_pairs n.key n.d q t.0, t.1)

  pub candidates_in : (q : RankedPair) → PairEnds n.key n.d q → qualifies n limit q ≡ true → In q (candidates n limit)
  unfolding candidates
  candidates_in q e k = keep_in (qualifies n limit) q (pairs n.key n.d) (pairs_in n.key n.d q e) k

  -- the least free candidate, and then the selection with its ends taken; none is left where each candidate is busy
  pub select_step : (used : ℕ → Bool) (p : RankedPair) → Least used (candidates n limit) p → select_from n limit used ≡ p ∷ select_from n limit (mark p used)
  unfolding select_from
  select_step used p h = step used (sort before (candidates n limit)) (in_order (candidates n limit)) p
      (record {
        member = sort_in before p (candidates n limit) h.member;
        free = h.free;
        first = λ q m. h.first q (in_sort before q (candidates n limit) m);
      })

  pub select_stop : (used : ℕ → Bool) → ((q : RankedPair) → In q (candidates n limit) → busy used q ≡ true) → select_from n limit used ≡ []
  unfolding select_from
  select_stop used h = stop used (sort before (candidates n limit)) (λ q m. h q (in_sort before q (candidates n limit) m))

  -- what is selected is settled in the candidates, and stands in order
  pub select_settled : Settled before shares (candidates n limit) (select n limit)
  unfolding select select_from
  select_settled = taken_settled (candidates n limit)

  pub select_ordered : InOrder before (select n limit)
  unfolding select select_from
  select_ordered = taken_ordered (candidates n limit)
