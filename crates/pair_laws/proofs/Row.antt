-- The first free candidate of a row, the pairs (i, j) with j above i, found by going through its ends: after each, what is held is the first of
-- those seen.
use Prim.Native.Nat.{ℕ, ◌+◌, ◌≤◌, ◌<◌}
use mathlib.Core.Path.{◌≡◌, refl, ◌∙◌, ap₂, subst}
use mathlib.Core.Bool.{Bool, true, false, cond, not, ◌&&◌, ◌||◌}
use mathlib.Core.Logic.{◌⊎◌, inl, inr, ⊎_elim}
use native.Mathlib.Omega.{arith}
use lib.Dec.{ltb, eqb}
use borrow.Author.Tests.{ltb-true, ltb-false, eqb-true, eqb-false}
use Rattle.pair_laws.specs.Ranked.{RankedPair, Node, qualifies, candidates, busy, before}
use Rattle.pair_laws.specs.Sets.{In, PairEnds}
use Rattle.pair_laws.specs.Taking.{pair_at, better, IsFirst}
use Rattle.pair_laws.proofs.Order.{AtBefore, tf, Three, three, irrefl, asym, before_trans, of_at_before, lower_key}
use Rattle.pair_laws.proofs.Laws.{in_candidates, candidates_in}

-- q stands at or before (i, j), whatever the keys
abbrev pub Upto : ℕ → ℕ → RankedPair → Type 0
Upto i j q = (q.i < i) ⊎ ((q.i ≡ i) × (q.j ≤ j))

module _ (n : Node) (limit : ℕ) (used : ℕ → Bool) where
  -- q is a free candidate
  pub record Open (q : RankedPair) : Type 0 where
    pub ends : PairEnds n.key n.d q
    pub ok : qualifies n limit q ≡ true
    pub free : busy used q ≡ false

  pub open_of : (q : RankedPair) → In q (candidates n limit) → busy used q ≡ false → Open q
  open_of q m f = let t = in_candidates n limit q m in record { ends = t.0; ok = t.1; free = f }

  pub member_of : (q : RankedPair) → Open q → In q (candidates n limit)
  member_of q o = candidates_in n limit q o.ends o.ok

  -- p is the least of the free candidates that were seen, or there was none
  pub record SoFar (Seen : RankedPair → Type 0) (p : RankedPair) : Type 0 where
    pub nothing : p.j ≡ 0 → (q : RankedPair) → Open q → Seen q → ⊥
    pub opened : 0 < p.j → Open p
    pub seen : 0 < p.j → Seen p
    pub first : 0 < p.j → (q : RankedPair) → Open q → Seen q → before q p ≡ false

  -- the same pairs, said otherwise
  pub move : (S S' : RankedPair → Type 0) (p : RankedPair) → ((q : RankedPair) → Open q → S' q → S q) → ((q : RankedPair) → Open q → S q → S' q) → SoFar S p → SoFar S' p
  move S S' p f g h =
      record {
        nothing = λ e q o s. h.nothing e q o (f q o s);
        opened = h.opened;
        seen = λ e. g p (h.opened e) (h.seen e);
        first = λ e q o s. h.first e q o (f q o s);
      }

  -- nothing was seen
  pub start : (S : RankedPair → Type 0) (p : RankedPair) → p.j ≡ 0 → ((q : RankedPair) → S q → ⊥) → SoFar S p
  start S p e f =
      record {
        nothing = λ _ q o s. f q s;
        opened = λ k. absurd (omega arith);
        seen = λ k. absurd (omega arith);
        first = λ k. absurd (omega arith);
      }

  -- the pair (i, j) is seen, after pairs that are no later but for their key
  module _
      (S S' : RankedPair → Type 0)
      (i j : ℕ)
      (i<j : i < j)
      (j<d : j < n.d)
      (p : RankedPair)
      (s : SoFar S p)
      (more : (q : RankedPair) → Open q → S' q → S q ⊎ ((q.i ≡ i) × (q.j ≡ j)))
      (still : (q : RankedPair) → S q → S' q)
      (here : S' (pair_at n i j))
      (upto : (q : RankedPair) → Open q → S q → Upto i j q) where
    one_more : (q : RankedPair) → Open q → S' q → S q ⊎ (q ≡ pair_at n i j)
    one_more q o m =
        ⊎_elim
        (λ (k : S q). inl k)
        (λ (k : (q.i ≡ i) × (q.j ≡ j)). inr (λ t. record { key = (o.ends.keyed ∙ ap₂ n.key k.0 k.1) t; i = k.0 t; j = k.1 t }))
        (more q o m)

    -- the pair is not open: nothing changes
    same : (Open (pair_at n i j) → ⊥) → SoFar S' p
    same shut =
        move S S' p
        (λ q o k. ⊎_elim (λ (m : S q). m) (λ (e : q ≡ pair_at n i j). absurd (shut (subst Open e o))) (one_more q o k))
        (λ q o k. still q k)
        s

    -- the pair is open and p is at or before it
    kept : 0 < p.j → p.key ≤ n.key i j → SoFar S' p
    kept h k =
        record {
          nothing = λ e. absurd (omega arith);
          opened = s.opened;
          seen = λ e. still p (s.seen e);
          first =
              λ e q o m. ⊎_elim
              (λ (a : S q). s.first e q o a)
              (λ (a : q ≡ pair_at n i j). rw a (later (upto p (s.opened e) (s.seen e))))
              (one_more q o m);
        }
      where
        place : Upto i j p → Three p.key (n.key i j) → AtBefore p (pair_at n i j)
        place m (inl a) = inl a
        place m (inr (inl a)) = inr (a, m)
        place m (inr (inr a)) = absurd (omega arith)

        later : Upto i j p → before (pair_at n i j) p ≡ false
        later m = of_at_before p (pair_at n i j) (place m (three p.key (n.key i j)))

    -- the pair is open, and there is none before it
    replaced : Open (pair_at n i j) → ((q : RankedPair) → Open q → S q → before q (pair_at n i j) ≡ false) → SoFar S' (pair_at n i j)
    replaced o f =
        record {
          nothing = λ e. absurd (omega arith);
          opened = λ e. o;
          seen = λ e. here;
          first = λ e q r m. ⊎_elim (λ (a : S q). f q r a) (λ (a : q ≡ pair_at n i j). rw a (irrefl (pair_at n i j))) (one_more q r m);
        }

    pub next : SoFar S' (better n limit used i j p)
    unfolding better
    next = go (busy used (pair_at n i j)) (qualifies n limit (pair_at n i j)) (eqb p.j 0) (ltb (n.key i j) p.key) refl refl refl refl
      where
        open_it : busy used (pair_at n i j) ≡ false → qualifies n limit (pair_at n i j) ≡ true → Open (pair_at n i j)
        open_it f k = record { ends = record { lower = i<j; below = j<d; keyed = refl }; ok = k; free = f }

        go : (x y z w : Bool) → busy used (pair_at n i j) ≡ x → qualifies n limit (pair_at n i j) ≡ y → eqb p.j 0 ≡ z → ltb (n.key i j) p.key ≡ w
            → SoFar S' (cond (not x && y && (z || w)) (pair_at n i j) p)
        go true y z w hx hy hz hw = same (λ o. tf hx o.free)
        go false false z w hx hy hz hw = same (λ o. tf o.ok hy)
        go false true true w hx hy hz hw = replaced (open_it hx hy) (λ q o m. absurd (s.nothing (eqb-true p.j 0 hz) q o m))
        go false true false true hx hy hz hw =
            replaced (open_it hx hy)
            (λ q o m. asym (pair_at n i j) q
            (before_trans (pair_at n i j) p q
            (lower_key (pair_at n i j) p (ltb-true (n.key i j) p.key hw))
            (s.first (omega (arith, eqb-false p.j 0 hz)) q o m)))
        go false true false false hx hy hz hw = kept (omega (arith, eqb-false p.j 0 hz)) (ltb-false (n.key i j) p.key hw)

  -- ---- the walk along row i, from j on

  -- q is of row i, and its j was passed
  abbrev pub Passed : ℕ → ℕ → RankedPair → Type 0
  Passed i j q = (q.i ≡ i) × (q.j < j)

  pub row_start : (i : ℕ) (p : RankedPair) → p.j ≡ 0 → SoFar (Passed i (i + 1)) p
  row_start i p e =
      move (λ q. ⊥) (Passed i (i + 1)) p (λ q o s. omega (arith, o.ends.lower, s.0, s.1)) (λ q o s. absurd s) (start (λ q. ⊥) p e (λ q s. s))

  pub row_next : (i j : ℕ) → i < j → j < n.d → (p : RankedPair) → SoFar (Passed i j) p → SoFar (Passed i (j + 1)) (better n limit used i j p)
  row_next i j h k p s =
      next (Passed i j) (Passed i (j + 1)) i j h k p s
      (λ q o m. last q m (three q.j j))
      (λ q m. (m.0, omega (arith, m.1)))
      (refl, omega arith)
      (λ q o m. inr (m.0, omega (arith, m.1)))
    where
      last : (q : RankedPair) → Passed i (j + 1) q → (q.j < j) ⊎ ((q.j ≡ j) ⊎ (j < q.j)) → Passed i j q ⊎ ((q.i ≡ i) × (q.j ≡ j))
      last q a (inl c) = inl (a.0, c)
      last q a (inr (inl c)) = inr (a.0, c)
      last q a (inr (inr c)) = absurd (omega (arith, a.1))

  pub row_done : (i j : ℕ) (p : RankedPair) → n.d ≤ j → SoFar (Passed i j) p → IsFirst n limit used i p
  row_done i j p h s =
      record {
        nothing = λ e q m f w. s.nothing e q (open_of q m f) (all q m w);
        member = λ e. member_of p (s.opened e);
        free = λ e. (s.opened e).free;
        here = λ e. (s.seen e).0;
        first = λ e q m f w. s.first e q (open_of q m f) (all q m w);
      }
    where
      all : (q : RankedPair) → In q (candidates n limit) → q.i ≡ i → Passed i j q
      all q m w = (w, omega (arith, (in_candidates n limit q m).0.below))
