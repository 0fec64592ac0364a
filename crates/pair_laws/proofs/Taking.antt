-- The turns of a route: after each, the pairs taken so far and the selection among the ends that are left make the whole selection. A turn takes
-- the least free candidate, writes it behind the pairs in the output and marks its two ends; where there is none, all is taken.
use Prim.Native.Nat.{ℕ, zero, suc, ◌+◌, ◌≤◌, ◌<◌}
use mathlib.Core.Path.{◌≡◌, refl, sym, ◌∙◌, ap, subst, fun_ext}
use mathlib.Core.Bool.{Bool, true, false, cond, not, ◌||◌}
use mathlib.Core.List.{List, [], ◌∷◌, ◌++◌, append_assoc, append-nil}
use native.Mathlib.Omega.{arith}
use native.Mathlib.Numerals.{add-two}
use lib.Dec.{eqb}
use lib.ListN.{length, get_or, set, drop, replicate, length-append, length-set, length-replicate}
use lib.Seq.{drop-cons, set_at, get_or-set_same, get_or-set_other, append_snoc}
use borrow.Author.Tests.{eqb-true, eqb-false, eq-eqb, not-false}
use Rattle.pair_laws.specs.Ranked.{RankedPair, Node, mark, busy, none, select_from, select}
use Rattle.pair_laws.specs.Taking.{used_of, listed, IsLeast}
use Rattle.pair_laws.proofs.Greedy.{or_false_left, or_false_right}
use Rattle.pair_laws.proofs.Laws.{in_candidates, select_step, select_stop}

-- ---- marks

-- how many marks are 0: what falls with each turn
pub zeros : List ℕ → ℕ
zeros [] = 0
zeros (x ∷ xs) = cond (eqb x 0) (suc (zeros xs)) (zeros xs)

pub zeros_le : (l : List ℕ) → zeros l ≤ length l
unfolding zeros
zeros_le [] = omega arith
zeros_le (x ∷ xs) = go (eqb x 0) (zeros_le xs)
  where
    go : (b : Bool) → zeros xs ≤ length xs → cond b (suc (zeros xs)) (zeros xs) ≤ suc (length xs)
    go true h = omega arith
    go false h = omega arith

zeros_set : (l : List ℕ) (i : ℕ) → i < length l → get_or l i 0 ≡ 0 → zeros l ≡ suc (zeros (set l i 1))
unfolding zeros
zeros_set [] i h e = absurd (omega arith)
zeros_set (x ∷ xs) zero h e = rw (eq-eqb x 0 e)
zeros_set (x ∷ xs) (suc i) h e = go (eqb x 0) (zeros_set xs i (omega arith) e)
  where
    go : (b : Bool) → zeros xs ≡ suc (zeros (set xs i 1))
        → cond b (suc (zeros xs)) (zeros xs) ≡ suc (cond b (suc (zeros (set xs i 1))) (zeros (set xs i 1)))
    go true h = ap suc h
    go false h = h

get_d_zeros : (d e : ℕ) → ◌≡◌ {A = ℕ} (get_or (replicate d 0) e 0) 0
get_d_zeros zero e = refl
get_d_zeros (suc d) zero = refl
get_d_zeros (suc d) (suc e) = get_d_zeros d e

-- where all marks are 0, no end is taken
pub used_none : (d : ℕ) → used_of (replicate d 0) ≡ none
used_none d = fun_ext (λ e. rw (get_d_zeros d e) (free e))
  where
    free : (e : ℕ) → not (eqb 0 0) ≡ none e
    free e = unfold none in refl

-- marking both ends of a pair
pub used_mark : (l : List ℕ) (p : RankedPair) → p.i < length l → p.j < length l → used_of (set (set l p.i 1) p.j 1) ≡ mark p (used_of l)
unfolding mark
used_mark l p hi hj = fun_ext (λ e. go e (eqb e p.i) (eqb e p.j) refl refl)
  where
    at_j : (e : ℕ) → e ≡ p.j → get_or (set (set l p.i 1) p.j 1) e 0 ≡ 1
    at_j e h = rw h (get_or-set_same (set l p.i 1) p.j 1 0 (simp length-set hj))

    past_j : (e : ℕ) → (e ≡ p.j → ⊥) → get_or (set (set l p.i 1) p.j 1) e 0 ≡ get_or (set l p.i 1) e 0
    past_j e h = get_or-set_other (set l p.i 1) p.j e 1 0 h

    go : (e : ℕ) (a b : Bool) → eqb e p.i ≡ a → eqb e p.j ≡ b → used_of (set (set l p.i 1) p.j 1) e ≡ (a || b || used_of l e)
    go e true true ha hb = rw (at_j e (eqb-true e p.j hb))
    go e false true ha hb = rw (at_j e (eqb-true e p.j hb))
    go e true false ha hb = rw (past_j e (eqb-false e p.j hb), eqb-true e p.i ha, get_or-set_same l p.i 1 0 hi)
    go e false false ha hb = rw (past_j e (eqb-false e p.j hb), get_or-set_other l p.i e 1 0 (eqb-false e p.i ha))

-- ---- the output

pub length_listed : (s : List RankedPair) → length (listed s) ≡ length s + length s
unfolding listed
length_listed [] = refl
length_listed (p ∷ ps) = let h = length_listed ps in omega arith

pub listed_append : (s t : List RankedPair) → listed (s ++ t) ≡ listed s ++ listed t
unfolding listed
listed_append [] t = refl
listed_append (p ∷ ps) t = ap (λ (l : List ℕ). p.i ∷ p.j ∷ l) (listed_append ps t)

-- two stores behind what is written
pub two_stores : (w r : List ℕ) (m x y : ℕ) → length w ≡ m → m + 2 ≤ length r
    → set (set (w ++ drop m r) m x) (m + 1) y ≡ (w ++ x ∷ y ∷ []) ++ drop (m + 2) r
two_stores w r m x y e h =
    ap (λ (l : List ℕ). set (set (w ++ l) m x) (m + 1) y)
    (drop-cons r m 0 (omega arith) ∙ ap (λ (l : List ℕ). get_or r m 0 ∷ l) (drop-cons r (suc m) 0 (omega arith)))
    ∙ ap (λ (l : List ℕ). set l (m + 1) y) (set_at w (get_or r m 0) _ x m e ∙ sym (append_snoc w x _))
    ∙ set_at (w ++ x ∷ []) (get_or r (suc m) 0) _ y (m + 1) (length-append w (x ∷ []) ∙ ap (λ (k : ℕ). k + 1) e)
    ∙ append_snoc w x _
    ∙ ap (λ (k : ℕ). w ++ x ∷ y ∷ drop k r) (sym (add-two m))
    ∙ sym (append_assoc w (x ∷ y ∷ []) (drop (m + 2) r))

-- ---- the turns

-- a least free candidate is a pair of unmarked ends
pub record Fresh (used : List ℕ) (d : ℕ) (p : RankedPair) : Type 0 where
  pub lower : p.i < p.j
  pub below : p.j < d
  pub free_i : get_or used p.i 0 ≡ 0
  pub free_j : get_or used p.j 0 ≡ 0

pub fresh : (n : Node) (limit : ℕ) (used : List ℕ) (p : RankedPair) → IsLeast n limit (used_of used) p → 0 < p.j → Fresh used n.d p
unfolding busy
fresh n limit used p h k =
    let l = h.something k in
    let e = (in_candidates n limit p l.member).0 in
    record {
      lower = e.lower;
      below = e.below;
      free_i = zero_at p.i (or_false_left (used_of used p.i) (used_of used p.j) l.free);
      free_j = zero_at p.j (or_false_right (used_of used p.i) (used_of used p.j) l.free);
    }
  where
    zero_at : (e : ℕ) → used_of used e ≡ false → get_or used e 0 ≡ 0
    zero_at e f = eqb-true (get_or used e 0) 0 (not-false (eqb (get_or used e 0) 0) f)

-- two marks fewer are 0
pub zeros_less : (used : List ℕ) (p : RankedPair) → Fresh used (length used) p → zeros used ≡ 2 + zeros (set (set used p.i 1) p.j 1)
zeros_less used p f =
    let x = zeros_set used p.i (omega (arith, f.lower, f.below)) f.free_i in
    let y = zeros_set (set used p.i 1) p.j (simp length-set f.below) (get_or-set_other used p.i p.j 1 0 (omega (arith, f.lower)) ∙ f.free_j) in
    omega arith

-- after k turns: the pairs taken, written to the output, and with what can still be selected they are all; two marks are set for each
pub record Taken (n : Node) (limit : ℕ) (out₀ out used : List ℕ) (k : ℕ) : Type 0 where
  pub taken : List RankedPair
  pub counted : length taken ≡ k
  pub written : out ≡ listed taken ++ drop (k + k) out₀
  pub left : taken ++ select_from n limit (used_of used) ≡ select n limit
  pub marks : length used ≡ n.d
  pub outs : length out ≡ length out₀
  pub room : k + k + zeros used ≤ n.d

pub taken_start : (n : Node) (limit : ℕ) (out₀ used : List ℕ) → used ≡ replicate n.d 0 → Taken n limit out₀ out₀ used 0
unfolding select
taken_start n limit out₀ used e =
    record {
      taken = [];
      counted = refl;
      written = unfold listed in refl;
      left = ap (select_from n limit) (ap used_of e ∙ used_none n.d);
      marks = long;
      outs = refl;
      room = omega (arith, zeros_le used, long);
    }
  where
    long : length used ≡ n.d
    long = ap length e ∙ length-replicate n.d 0

module _ (n : Node) (limit : ℕ) (out₀ out used : List ℕ) (k : ℕ) (p : RankedPair) (t : Taken n limit out₀ out used k) (h : IsLeast n limit (used_of used) p) where
  -- the least free candidate is taken
  module _ (r : n.d ≤ length out₀) (g : 0 < p.j) where
    f : Fresh used n.d p
    f = fresh n limit used p h g

    fewer : zeros used ≡ 2 + zeros (set (set used p.i 1) p.j 1)
    fewer = zeros_less used p (subst (λ (m : ℕ). Fresh used m p) (sym t.marks) f)

    pub taken_step : Taken n limit out₀ (set (set out (k + k) p.i) (k + k + 1) p.j) (set (set used p.i 1) p.j 1) (k + 1)
    taken_step =
        record {
          taken = t.taken ++ p ∷ [];
          counted = length-append t.taken (p ∷ []) ∙ ap (λ (m : ℕ). m + 1) t.counted;
          written = written;
          left = left;
          marks = simp length-set t.marks;
          outs = simp length-set t.outs;
          room = omega (arith, t.room, fewer);
        }
      where
        twice : k + k + 2 ≡ k + 1 + (k + 1)
        twice = omega arith

        one : p.i ∷ p.j ∷ [] ≡ listed (p ∷ [])
        one = unfold listed in refl

        written : set (set out (k + k) p.i) (k + k + 1) p.j ≡ listed (t.taken ++ p ∷ []) ++ drop (k + 1 + (k + 1)) out₀
        written =
            ap (λ (l : List ℕ). set (set l (k + k) p.i) (k + k + 1) p.j) t.written
            ∙ two_stores (listed t.taken) out₀ (k + k) p.i p.j
            (length_listed t.taken ∙ ap (λ (m : ℕ). m + m) t.counted)
            (omega (arith, t.room, fewer))
            ∙ ap (λ (l : List ℕ). l ++ drop (k + k + 2) out₀) (ap (λ (l : List ℕ). listed t.taken ++ l) one ∙ sym (listed_append t.taken (p ∷ [])))
            ∙ ap (λ (m : ℕ). listed (t.taken ++ p ∷ []) ++ drop m out₀) twice

        left : (t.taken ++ p ∷ []) ++ select_from n limit (used_of (set (set used p.i 1) p.j 1)) ≡ select n limit
        left =
            append_assoc t.taken (p ∷ []) (select_from n limit (used_of (set (set used p.i 1) p.j 1)))
            ∙ ap (λ (u : ℕ → Bool). t.taken ++ p ∷ select_from n limit u)
            (used_mark used p (omega (arith, f.lower, f.below, t.marks)) (omega (arith, f.below, t.marks)))
            ∙ ap (λ (l : List RankedPair). t.taken ++ l) (sym (select_step n limit (used_of used) p (h.something g)))
            ∙ t.left

    pub turn_room : k + k + 2 ≤ length out
    turn_room = omega (arith, t.room, t.outs, fewer)

    pub turn_falls : zeros (set (set used p.i 1) p.j 1) < zeros used
    turn_falls = omega (arith, fewer)

  -- no free candidate is left
  pub taken_all : p.j ≡ 0 → t.taken ≡ select n limit
  taken_all g =
      sym (append-nil t.taken) ∙ ap (λ (l : List RankedPair). t.taken ++ l) (sym (select_stop n limit (used_of used) (h.nothing g))) ∙ t.left
