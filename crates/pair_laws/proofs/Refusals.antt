-- What a pairing call that isn't refused may rely on: refusal 6 rules out a limit that is no number, refusal 8 a piece with three ends, and
-- refusal 9 a present direction that isn't finite.
use Prim.Native.Nat.{ℕ, zero, suc, ◌+◌, ◌*◌, ◌≤◌, ◌<◌}
use mathlib.Core.Path.{◌≡◌, refl, sym, ◌∙◌, ap, subst}
use mathlib.Core.Bool.{Bool, true, false, not, ◌&&◌, ◌||◌}
use mathlib.Core.List.{List, [], ◌∷◌}
use native.Mathlib.Omega.{arith}
use lib.ListN.{length, get_or}
use lib.Dec.{T, ltb, eqb}
use lib.Ieee.{Float, nan, binary64, le, is_nan, fits}
use lib.Ieee.Scale.{finite}
use borrow.Author.Tests.{ltb-false, eqb-true, eq-eqb, not-false}
use Rattle.rules.specs.Lists.{count}
use Rattle.rules.specs.Plane.{unity, minus_unity}
use Rattle.rules.specs.Refusals.{LentEnds, most_ends, end_room, first_of, any_above, limit_bad, more_than_twice, any_wild, pair_refusal_of}
use Rattle.float_order.specs.Key.{key_nan, key}
use Rattle.float_order.proofs.Order.{le_num_r}
use Rattle.float_order.proofs.Keys.{key_num, rank_under}
use Rattle.pair_laws.specs.Owners.{AtMostTwice}
use Rattle.pair_laws.proofs.Order.{tf, and_left, and_right}
use Rattle.pair_laws.proofs.Greedy.{or_false_left, or_false_right}

-- ---- no refusal

-- none of seven tests held
seven : (a b c d e f g : Bool) → first_of ((1, a) ∷ (2, b) ∷ (3, c) ∷ (6, d) ∷ (7, e) ∷ (8, f) ∷ (9, g) ∷ []) ≡ 0
    → (a ≡ false) × (b ≡ false) × (c ≡ false) × (d ≡ false) × (e ≡ false) × (f ≡ false) × (g ≡ false)
unfolding first_of
seven true b c d e f g h = absurd (omega arith)
seven false true c d e f g h = absurd (omega arith)
seven false false true d e f g h = absurd (omega arith)
seven false false false true e f g h = absurd (omega arith)
seven false false false false true f g h = absurd (omega arith)
seven false false false false false true g h = absurd (omega arith)
seven false false false false false false true h = absurd (omega arith)
seven false false false false false false false h = (refl, refl, refl, refl, refl, refl, refl)

pub record Admitted (alone : Bool) (i : LentEnds) : Type 0 where
  pub number : length i.pieces ≤ most_ends
  pub marked : length i.present ≡ length i.pieces
  pub directed : length i.directions ≡ length i.pieces * 2
  pub marks : any_above 1 i.present ≡ false
  pub limited : limit_bad i.limit ≡ false
  pub room : length i.pieces ≤ length i.pairs
  pub workroom : length i.pieces * end_room ≤ length i.workspace
  pub twice : more_than_twice i.pieces i.pieces ≡ false
  pub tame : (alone && any_wild i.present i.directions) ≡ false

pub admitted : (alone : Bool) (i : LentEnds) → pair_refusal_of alone i ≡ 0 → Admitted alone i
unfolding pair_refusal_of
admitted alone i h =
    record {
      number = ltb-false most_ends d t.0;
      marked = eqb-true (length i.present) d (not-false (eqb (length i.present) d) (or_false_left unmarked undirected t.1));
      directed = eqb-true (length i.directions) (d * 2) (not-false (eqb (length i.directions) (d * 2)) (or_false_right unmarked undirected t.1));
      marks = t.2;
      limited = t.3;
      room = ltb-false (length i.pairs) d (or_false_left short shorter t.4);
      workroom = ltb-false (length i.workspace) (d * end_room) (or_false_right short shorter t.4);
      twice = t.5;
      tame = t.6;
    }
  where
    d : ℕ
    d = length i.pieces

    unmarked : Bool
    unmarked = not (eqb (length i.present) d)

    undirected : Bool
    undirected = not (eqb (length i.directions) (d * 2))

    short : Bool
    short = ltb (length i.pairs) d

    shorter : Bool
    shorter = ltb (length i.workspace) (d * end_room)

    wild : Bool
    wild = alone && any_wild i.present i.directions

    t : (ltb most_ends d ≡ false) × ((unmarked || undirected) ≡ false) × (any_above 1 i.present ≡ false) × (limit_bad i.limit ≡ false)
        × ((short || shorter) ≡ false) × (more_than_twice i.pieces i.pieces ≡ false) × (wild ≡ false)
    t = seven (ltb most_ends d) (unmarked || undirected) (any_above 1 i.present) (limit_bad i.limit) (short || shorter) (more_than_twice i.pieces i.pieces) wild h

-- ---- 6

pub limit_number : (limit : Float) → limit_bad limit ≡ false → T (not (is_nan limit))
unfolding limit_bad
limit_number limit h = le_num_r minus_unity limit (subst T (sym (and_left (le minus_unity limit) (le limit unity) (not-false _ h))) tt)

pub limit_under : (limit : Float) → T (fits binary64 limit) → limit_bad limit ≡ false → key limit < key_nan
limit_under limit f h = omega (arith, key_num limit (limit_number limit h), rank_under limit f)

-- ---- 8

-- a number that stands at one, two or three places is counted so often
count_one : (k : ℕ) (l : List ℕ) (x : ℕ) → x < length l → get_or l x 0 ≡ k → 1 ≤ count k l
unfolding count
count_one k [] x h e = absurd (omega arith)
count_one k (a ∷ l) zero h e = rw (eq-eqb k a (sym e)) (omega arith)
count_one k (a ∷ l) (suc x) h e = omega (arith, count_one k l x (omega arith) e)

count_two : (k : ℕ) (l : List ℕ) (x y : ℕ) → x < y → y < length l → get_or l x 0 ≡ k → get_or l y 0 ≡ k → 2 ≤ count k l
unfolding count
count_two k [] x y g h e f = absurd (omega arith)
count_two k (a ∷ l) x zero g h e f = absurd (omega arith)
count_two k (a ∷ l) zero (suc y) g h e f = rw (eq-eqb k a (sym e)) (omega (arith, count_one k l y (omega arith) f))
count_two k (a ∷ l) (suc x) (suc y) g h e f = omega (arith, count_two k l x y (omega arith) (omega arith) e f)

count_three : (k : ℕ) (l : List ℕ) (x y z : ℕ) → x < y → y < z → z < length l → get_or l x 0 ≡ k → get_or l y 0 ≡ k → get_or l z 0 ≡ k → 3 ≤ count k l
unfolding count
count_three k [] x y z g h i e f d = absurd (omega arith)
count_three k (a ∷ l) x y zero g h i e f d = absurd (omega arith)
count_three k (a ∷ l) x zero (suc z) g h i e f d = absurd (omega arith)
count_three k (a ∷ l) zero (suc y) (suc z) g h i e f d = rw (eq-eqb k a (sym e)) (omega (arith, count_two k l y z (omega arith) (omega arith) f d))
count_three k (a ∷ l) (suc x) (suc y) (suc z) g h i e f d = omega (arith, count_three k l x y z (omega arith) (omega arith) (omega arith) e f d)

twice_at : (all l : List ℕ) → more_than_twice all l ≡ false → (x : ℕ) → x < length l → count (get_or l x 0) all ≤ 2
unfolding more_than_twice
twice_at all [] h x g = absurd (omega arith)
twice_at all (p ∷ l) h x g = go (ltb 2 (count p all)) refl h x g (twice_at all l)
  where
    go : (t : Bool) → ltb 2 (count p all) ≡ t → elim t as (λ _. Bool) [ true ↦ true | false ↦ more_than_twice all l ] ≡ false → (x : ℕ) → x < length (p ∷ l)
        → (more_than_twice all l ≡ false → (x : ℕ) → x < length l → count (get_or l x 0) all ≤ 2) → count (get_or (p ∷ l) x 0) all ≤ 2
    go true e h x g ih = absurd (tf refl h)
    go false e h zero g ih = ltb-false 2 (count p all) e
    go false e h (suc x) g ih = ih h x (omega arith)

pub at_most_twice : (pieces : List ℕ) → more_than_twice pieces pieces ≡ false → AtMostTwice (λ e. get_or pieces e 0) (length pieces)
at_most_twice pieces h x y z x<y y<z z<d e f =
    omega (arith, twice_at pieces pieces h x (omega arith), count_three (get_or pieces x 0) pieces x y z x<y y<z z<d refl (sym e) (sym (e ∙ f)))

-- ---- 9

wild_split : (a : ℕ) (marks : List ℕ) (x y : Float) (ways : List Float) → any_wild (a ∷ marks) (x ∷ y ∷ ways) ≡ false
    → ((eqb a 1 && not (finite x && finite y)) ≡ false) × (any_wild marks ways ≡ false)
unfolding any_wild
wild_split a marks x y ways h = go (eqb a 1 && not (finite x && finite y)) h
  where
    go : (t : Bool) → ◌≡◌ {A = Bool} (elim t [ true ↦ true | false ↦ any_wild marks ways ]) false → (t ≡ false) × (any_wild marks ways ≡ false)
    go true e = absurd (tf refl e)
    go false e = (refl, e)

pub all_finite : (marks : List ℕ) (ways : List Float) → any_wild marks ways ≡ false → (e : ℕ) → e < length marks → e * 2 + 1 < length ways → get_or marks e 0 ≡ 1
    → T (finite (get_or ways (e * 2) nan)) × T (finite (get_or ways (e * 2 + 1) nan))
all_finite [] ways h e g k m = absurd (omega arith)
all_finite (a ∷ marks) [] h e g k m = absurd (omega arith)
all_finite (a ∷ marks) (x ∷ []) h zero g k m = absurd (omega arith)
all_finite (a ∷ marks) (x ∷ []) h (suc e) g k m = absurd (omega arith)
all_finite (a ∷ marks) (x ∷ y ∷ ways) h zero g k m =
    (subst T (sym (and_left (finite x) (finite y) both)) tt, subst T (sym (and_right (finite x) (finite y) both)) tt)
  where
    both : (finite x && finite y) ≡ true
    both = not-false (finite x && finite y) (ap (λ (t : Bool). t && not (finite x && finite y)) (sym (eq-eqb a 1 m)) ∙ (wild_split a marks x y ways h).0)
all_finite (a ∷ marks) (x ∷ y ∷ ways) h (suc e) g k m =
    let t = all_finite marks ways (wild_split a marks x y ways h).1 e (omega arith) (omega arith) m in
    (subst (λ (i : ℕ). T (finite (get_or (x ∷ y ∷ ways) i nan))) first t.0, subst (λ (i : ℕ). T (finite (get_or (x ∷ y ∷ ways) i nan))) second t.1)
  where
    first : suc (suc (e * 2)) ≡ suc e * 2
    first = omega arith

    second : suc (suc (e * 2 + 1)) ≡ suc e * 2 + 1
    second = omega arith
