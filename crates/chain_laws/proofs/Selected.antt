-- Selected pairs: each is of two pieces and of the listed ends, and no end stands in two of them.
-- Both hold of the pairs that qualify, and not-both sorting nor taking loses them; an end that is taken is not taken again.
use Prim.Native.Nat.{ℕ, ◌≤◌, ◌<◌, zero-le}
use mathlib.Core.Path.{◌≡◌, refl, sym, ap, ◌∙◌}
use mathlib.Core.Logic.{◌≢◌}
use mathlib.Core.Bool.{Bool, true, false, ◌||◌}
use mathlib.Core.List.{List, [], ◌∷◌, map}
use native.Mathlib.Omega.{arith}
use native.Mathlib.Decide.{ℕ_discrete}
use lib.Dec.{eqb}
use lib.Ieee.{Float, le}
use borrow.Author.Tests.{eqb-false}
use Rattle.rules.specs.Answers.{Direction}
use Rattle.rules.specs.Answers.{Absent, Toward}
use Rattle.rules.specs.Lists.{count, stands}
use Rattle.rules.specs.Plane.{measure}
use Rattle.rules.specs.Selecting.{End, Pair, within, pair, pairs_with, qualifying, before, insert, sorted, greedy, select}
use Rattle.rules.specs.Walking.{piece_of}
use Rattle.rules.specs.Chaining.{Piece, Rule, end_at}
use Rattle.chain_laws.proofs.Counts.{Each, nil, cons, each_append, each_weak, one_same, one_other, stands_false}
use Rattle.chain_laws.proofs.Mates.{names}

module _ (P : Pair → Type 0) where
  each_insert : (p : Pair) (l : List Pair) → P p → Each P l → Each P (insert p l)
  unfolding insert
  each_insert p [] h nil = cons h nil
  each_insert p (q ∷ l) h (cons k a) = go (before p q) refl (each_insert p l h a)
    where
      go : (b : Bool) → before p q ≡ b → Each P (insert p l) → Each P (insert p (q ∷ l))
      go true e i = rw (e, insert) (cons h (cons k a))
      go false e i = rw (e, insert) (cons k i)

  each_sorted : (l : List Pair) → Each P l → Each P (sorted l)
  unfolding sorted
  each_sorted [] nil = nil
  each_sorted (p ∷ l) (cons h a) = each_insert p (sorted l) h (each_sorted l a)

  each_greedy : (taken : List ℕ) (l : List Pair) → Each P l → Each P (greedy taken l)
  unfolding greedy
  each_greedy taken [] nil = nil
  each_greedy taken (p ∷ l) (cons h a) =
      go (stands p.i taken || stands p.j taken) refl (each_greedy taken l a) (each_greedy (p.i ∷ p.j ∷ taken) l a)
    where
      go : (b : Bool) → (stands p.i taken || stands p.j taken) ≡ b → Each P (greedy taken l) → Each P (greedy (p.i ∷ p.j ∷ taken) l)
          → Each P (greedy taken (p ∷ l))
      go true e i k = rw (e, greedy) i
      go false e i k = rw (e, greedy) (cons h k)

  module _ (limit : Float) (Q : End → Type 0) (both : (a b : End) → Q a → Q b → Each P (pair limit a b)) where
    each_with : (a : End) (l : List End) → Q a → Each Q l → Each P (pairs_with limit a l)
    unfolding pairs_with
    each_with a [] h nil = nil
    each_with a (b ∷ l) h (cons k r) = each_append (both a b h k) (each_with a l h r)

    each_qualifying : (l : List End) → Each Q l → Each P (qualifying limit l)
    unfolding qualifying
    each_qualifying [] nil = nil
    each_qualifying (a ∷ l) (cons h r) = each_append (each_with a l h r) (each_qualifying l r)

abbrev pub ends : Pair → ℕ × ℕ
ends p = (p.i, p.j)

or_false : (a b : Bool) → (a || b) ≡ false → (a ≡ false) × (b ≡ false)
or_false true b h = let z : ◌≡◌ {A = ℕ} 0 1 = cc in absurd (omega arith)
or_false false b h = (refl, h)

-- what is taken is not taken again
greedy_fresh : (taken : List ℕ) (l : List Pair) (x : ℕ) → 0 < count x taken → count x (names (map ends (greedy taken l))) ≡ 0
unfolding greedy names count
greedy_fresh taken [] x h = refl
greedy_fresh taken (p ∷ l) x h =
    go (stands p.i taken || stands p.j taken) refl (greedy_fresh taken l x h)
    (greedy_fresh (p.i ∷ p.j ∷ taken) l x (omega arith))
  where
    go : (b : Bool) → (stands p.i taken || stands p.j taken) ≡ b
        → count x (names (map ends (greedy taken l))) ≡ 0
        → count x (names (map ends (greedy (p.i ∷ p.j ∷ taken) l))) ≡ 0
        → count x (names (map ends (greedy taken (p ∷ l)))) ≡ 0
    go true e i k = rw (e, greedy) i
    go false e i k =
        let r = or_false (stands p.i taken) (stands p.j taken) e in
        rw (e, greedy)
        (omega (
          arith,
          k,
          one_other x p.i (λ q. omega (arith, stands_false p.i taken r.0, ap (λ (m : ℕ). count m taken) q)),
          one_other x p.j (λ q. omega (arith, stands_false p.j taken r.1, ap (λ (m : ℕ). count m taken) q)),
        ))

greedy_once : (taken : List ℕ) (l : List Pair) → Each (λ p. p.i ≢ p.j) l → (x : ℕ) → count x (names (map ends (greedy taken l))) ≤ 1
unfolding greedy names count
greedy_once taken [] nil x = zero-le
greedy_once taken (p ∷ l) (cons h a) x =
    go (stands p.i taken || stands p.j taken) refl (greedy_once taken l a x) (greedy_once (p.i ∷ p.j ∷ taken) l a x)
  where
    fresh : 0 < count x (p.i ∷ p.j ∷ taken) → count x (names (map ends (greedy (p.i ∷ p.j ∷ taken) l))) ≡ 0
    fresh k = greedy_fresh (p.i ∷ p.j ∷ taken) l x k

    go : (b : Bool) → (stands p.i taken || stands p.j taken) ≡ b
        → count x (names (map ends (greedy taken l))) ≤ 1
        → count x (names (map ends (greedy (p.i ∷ p.j ∷ taken) l))) ≤ 1
        → count x (names (map ends (greedy taken (p ∷ l)))) ≤ 1
    go true e i k = rw (e, greedy) i
    go false e i k =
        rw (e, greedy)
        (elim (ℕ_discrete x p.i) [
          | yes q ↦ omega (arith, one_same x p.i q, one_other x p.j (λ r. h (sym q ∙ r)), fresh (omega (arith, one_same x p.i q)))
          | no q ↦ elim (ℕ_discrete x p.j) [
            | yes r ↦ omega (arith, one_other x p.i q, one_same x p.j r, fresh (omega (arith, one_same x p.j r)))
            | no r ↦ omega (arith, one_other x p.i q, one_other x p.j r, k)
          ]
        ])

-- two pieces, and both ends are in the list
abbrev pub Good : List ℕ → ℕ → ℕ → Type 0
Good l a b = (piece_of a ≢ piece_of b) × (0 < count a l) × (0 < count b l)

within_each : (P : Pair → Type 0) (limit : Float) (i j : ℕ) (a b : Direction) → ((m : Float) → P (record { size = m; i = i; j = j }))
    → Each P (within limit i j a b)
unfolding within
within_each P limit i j Absent b h = nil
within_each P limit i j (Toward a b) Absent h = nil
within_each P limit i j (Toward a b) (Toward c d) h = go (le (measure a b c d) limit) refl
  where
    go : (t : Bool) → le (measure a b c d) limit ≡ t → Each P (within limit i j (Toward a b) (Toward c d))
    go true e = rw (e, within) (cons (h (measure a b c d)) nil)
    go false e = rw (e, within) nil

abbrev True : List ℕ → End → Type 0
True l a = (a.piece ≡ piece_of a.name) × (0 < count a.name l)

pair_good : (l : List ℕ) (limit : Float) (a b : End) → True l a → True l b → Each (λ p. Good l p.i p.j) (pair limit a b)
unfolding pair
pair_good l limit a b h k = go (eqb a.piece b.piece) refl
  where
    go : (t : Bool) → eqb a.piece b.piece ≡ t → Each (λ p. Good l p.i p.j) (pair limit a b)
    go true e = rw (e, pair) nil
    go false e =
        rw (e, pair)
        (within_each (λ p. Good l p.i p.j) limit a.name b.name a.direction b.direction
        (λ m. ((λ q. eqb-false a.piece b.piece e (h.0 ∙ q ∙ sym k.0)), h.1, k.1)))

-- a name is a name of some pair
pub names_in : (l : List ℕ) (ps : List (ℕ × ℕ)) → Each (λ (q : ℕ × ℕ). Good l q.0 q.1) ps → (x : ℕ) → 0 < count x (names ps) → 0 < count x l
unfolding names count
names_in l [] nil x h = absurd (omega arith)
names_in l (q ∷ ps) (cons g a) x h =
    elim (ℕ_discrete x q.0) [
      | yes e ↦ rw e g.1
      | no e ↦ elim (ℕ_discrete x q.1) [
        | yes d ↦ rw d g.2
        | no d ↦ names_in l ps a x (omega (arith, one_other x q.0 e, one_other x q.1 d))
      ]
    ]

-- ---- the pairs selected of the ends of a list

ends_true : (rule : Rule) (ps : List Piece) (l m : List ℕ) → ((x : ℕ) → 0 < count x m → 0 < count x l) → Each (True l) (map (end_at rule ps) m)
unfolding end_at count
ends_true rule ps l [] h = nil
ends_true rule ps l (a ∷ m) h = cons (refl, h a (omega (arith, one_same a a refl))) (ends_true rule ps l m (λ x i. h x (omega arith)))

module _ (rule : Rule) (ps : List Piece) (l : List ℕ) (limit : Float) where
  abbrev GoodPair : Pair → Type 0
  GoodPair p = Good l p.i p.j

  abbrev found : List Pair
  found = qualifying limit (map (end_at rule ps) l)

  found_good : Each GoodPair (sorted found)
  found_good =
      each_sorted GoodPair found
      (each_qualifying GoodPair limit (True l) (pair_good l limit) (map (end_at rule ps) l) (ends_true rule ps l l (λ x h. h)))

  pub select_good : Each (λ p. Good l p.i p.j) (select limit (map (end_at rule ps) l))
  unfolding select
  select_good = each_greedy GoodPair [] (sorted found) found_good

  pub select_once : (x : ℕ) → count x (names (map ends (select limit (map (end_at rule ps) l)))) ≤ 1
  unfolding select
  select_once x =
      greedy_once [] (sorted found) (each_weak GoodPair (λ p. p.i ≢ p.j) (sorted found) (λ p g d. g.0 (ap piece_of d)) found_good) x
