-- The listed pairs, looked at two numbers at a time, are the pairs. Of pairs that share no end the first that has one of two ends is the pair of both, if
-- any is.
use Prim.Native.Nat.{ℕ, zero, suc, ◌+◌, ◌*◌, ◌/◌, ◌≤◌, ◌<◌}
use mathlib.Core.Path.{◌≡◌, refl, sym, ap, ap₂, ◌∙◌}
use mathlib.Core.Bool.{Bool, true, false, not, ◌&&◌, ◌||◌}
use mathlib.Core.Logic.{◌⊎◌, inl, inr}
use mathlib.Core.List.{List, [], ◌∷◌, flat_map}
use native.Mathlib.Omega.{arith}
use lib.Dec.{eqb, ltb}
use lib.Ieee.{nan}
use lib.ListN.{length, get_or, drop, length-drop}
use lib.Seq.{drop-cons}
use borrow.Author.Tests.{lt-ltb, le-ltb, ltb-true, eq-eqb}
use Rattle.rules.specs.Selecting.{Pair}
use Rattle.rules.specs.Layout.{listed}
use Rattle.rules.specs.Lists.{any_of, first_place}
use Rattle.rules.specs.Reasons.{joins, touches, no_ends}
use Rattle.pair_laws.specs.Sets.{In}
use Rattle.pair_laws.specs.Settled.{shares}
use Rattle.pair_laws.proofs.Order.{two, tf, and_left, and_right}
use Rattle.pair_laws.proofs.Calls.{length_listed}
use Rattle.pair_reasons.specs.Told.{pair_in}
use Rattle.pair_reasons.proofs.Places.{at_in, in_at, in_any, any_in, place_yes, place_no, place_passes, place_least}
use Rattle.pair_reasons.proofs.Tests.{shares_touches}
use Rattle.pair_why.specs.Looking.{meets_at, first_meeting, joins_at}

-- ---- two numbers at a time

meeting_yes : (a b x y : ℕ) (l : List ℕ) → meets_at a b x y ≡ true → first_meeting a b (x ∷ y ∷ l) ≡ 0
unfolding first_meeting
meeting_yes a b x y l e = ap (λ (t : Bool). elim t as (λ _. ℕ) [ true ↦ 0 | false ↦ suc (first_meeting a b l) ]) e

meeting_no : (a b x y : ℕ) (l : List ℕ) → meets_at a b x y ≡ false → first_meeting a b (x ∷ y ∷ l) ≡ suc (first_meeting a b l)
unfolding first_meeting
meeting_no a b x y l e = ap (λ (t : Bool). elim t as (λ _. ℕ) [ true ↦ 0 | false ↦ suc (first_meeting a b l) ]) e

module _ (a b : ℕ) (l : List ℕ) (p : ℕ) (h : p < length l / 2) where
  pair_cons : drop (p * 2) l ≡ get_or l (p * 2) 0 ∷ get_or l (p * 2 + 1) 0 ∷ drop ((p + 1) * 2) l
  pair_cons =
      let second : suc (p * 2) ≡ p * 2 + 1 = omega arith in
      let further : suc (p * 2 + 1) ≡ (p + 1) * 2 = omega arith in
      drop-cons l (p * 2) 0 (omega arith)
      ∙ ap (λ (n : ℕ). get_or l (p * 2) 0 ∷ drop n l) second
      ∙ ap (λ (r : List ℕ). get_or l (p * 2) 0 ∷ r)
      (drop-cons l (p * 2 + 1) 0 (omega arith) ∙ ap (λ (n : ℕ). get_or l (p * 2 + 1) 0 ∷ drop n l) further)

  pub meeting_here : meets_at a b (get_or l (p * 2) 0) (get_or l (p * 2 + 1) 0) ≡ true → first_meeting a b (drop (p * 2) l) ≡ 0
  meeting_here e = ap (first_meeting a b) pair_cons ∙ meeting_yes a b (get_or l (p * 2) 0) (get_or l (p * 2 + 1) 0) (drop ((p + 1) * 2) l) e

  pub meeting_next : meets_at a b (get_or l (p * 2) 0) (get_or l (p * 2 + 1) 0) ≡ false → first_meeting a b (drop (p * 2) l) ≡ suc (first_meeting a b (drop ((p + 1) * 2) l))
  meeting_next e = ap (first_meeting a b) pair_cons ∙ meeting_no a b (get_or l (p * 2) 0) (get_or l (p * 2 + 1) 0) (drop ((p + 1) * 2) l) e

short_none : (a b : ℕ) (l : List ℕ) → length l ≤ 1 → first_meeting a b l ≡ 0
unfolding first_meeting
short_none a b [] h = refl
short_none a b (x ∷ []) h = refl
short_none a b (x ∷ y ∷ l) h = absurd (omega arith)

pub meeting_none : (a b : ℕ) (l : List ℕ) (p : ℕ) → length l / 2 ≤ p → first_meeting a b (drop (p * 2) l) ≡ 0
meeting_none a b l p h = short_none a b (drop (p * 2) l) (omega (arith, length-drop (p * 2) l))

-- ---- two numbers that are no two ends

pub first_beyond : (d a b : ℕ) → d ≤ a → no_ends d a b ≡ true
unfolding no_ends
first_beyond d a b h = rw (le-ltb a d h) refl

pub second_beyond : (d a b : ℕ) → d ≤ b → no_ends d a b ≡ true
unfolding no_ends
second_beyond d a b h = go (ltb a d)
  where
    go : (t : Bool) → (not t || (not (ltb b d) || eqb a b)) ≡ true
    go true = rw (le-ltb b d h) refl
    go false = refl

pub both_within : (d a b : ℕ) → a < d → b < d → no_ends d a b ≡ eqb a b
unfolding no_ends
both_within d a b h k = rw (lt-ltb a d h, lt-ltb b d k) refl

-- ---- the listed pairs

listed_cons : (p : Pair) (l : List Pair) → listed (p ∷ l) ≡ p.i ∷ p.j ∷ listed l
unfolding listed flat_map
listed_cons p l = refl

listed_i : (l : List Pair) (p : ℕ) → p < length l → get_or (listed l) (p * 2) 0 ≡ (pair_in l p).i
listed_i [] p h = absurd (omega arith)
listed_i (q ∷ l) zero h = ap (λ (r : List ℕ). get_or r 0 0) (listed_cons q l)
listed_i (q ∷ l) (suc p) h =
    let e : suc p * 2 ≡ suc (suc (p * 2)) = omega arith in
    ap₂ (λ (r : List ℕ) (n : ℕ). get_or r n 0) (listed_cons q l) e ∙ listed_i l p (omega arith)

listed_j : (l : List Pair) (p : ℕ) → p < length l → get_or (listed l) (p * 2 + 1) 0 ≡ (pair_in l p).j
listed_j [] p h = absurd (omega arith)
listed_j (q ∷ l) zero h = ap (λ (r : List ℕ). get_or r 1 0) (listed_cons q l)
listed_j (q ∷ l) (suc p) h =
    let e : suc p * 2 + 1 ≡ suc (suc (p * 2 + 1)) = omega arith in
    ap₂ (λ (r : List ℕ) (n : ℕ). get_or r n 0) (listed_cons q l) e ∙ listed_j l p (omega arith)

pub meeting_listed : (a b : ℕ) (l : List Pair) → first_meeting a b (listed l) ≡ first_place (touches a b) l
meeting_listed a b [] = unfold listed flat_map first_meeting first_place in refl
meeting_listed a b (p ∷ l) = ap (first_meeting a b) (listed_cons p l) ∙ go (two (touches a b p)) (meeting_listed a b l)
  where
    same : touches a b p ≡ meets_at a b p.i p.j
    same = unfold touches in refl

    go : (touches a b p ≡ true) ⊎ (touches a b p ≡ false) → first_meeting a b (listed l) ≡ first_place (touches a b) l
        → first_meeting a b (p.i ∷ p.j ∷ listed l) ≡ first_place (touches a b) (p ∷ l)
    go (inl e) ih = meeting_yes a b p.i p.j (listed l) (sym same ∙ e) ∙ sym (place_yes (touches a b) p l e)
    go (inr e) ih = meeting_no a b p.i p.j (listed l) (sym same ∙ e) ∙ ap suc ih ∙ sym (place_no (touches a b) p l e)

joins_listed : (a b : ℕ) (l : List Pair) (p : ℕ) → joins_at a b p (listed l) ≡ (ltb p (length l) && joins a b (pair_in l p))
unfolding joins
joins_listed a b l p = go (two (ltb p (length l)))
  where
    half : length (listed l) / 2 ≡ length l
    half = omega (arith, length_listed l)

    go : (ltb p (length l) ≡ true) ⊎ (ltb p (length l) ≡ false) → joins_at a b p (listed l) ≡ (ltb p (length l) && joins a b (pair_in l p))
    go (inl e) = (let h = ltb-true p (length l) e in rw (half, listed_i l p h, listed_j l p h) refl)
    go (inr e) = rw (half, e) refl

-- ---- the first that has one of two ends

touches_own : (a b : ℕ) (p : Pair) → joins a b p ≡ true → touches a b p ≡ true
touches_own a b p j = sym (shares_touches a b p p j) ∙ (unfold shares in rw (eq-eqb p.i p.i refl) refl)

module _ (s : List Pair) (apart : (p q : Pair) → In p s → In q s → shares p q ≡ true → p ≡ q) (a b : ℕ) where
  abbrev nothing : Pair
  nothing = record { size = nan; i = 0; j = 0 }

  abbrev place : ℕ
  place = first_place (touches a b) s

  first_joins : any_of (joins a b) s ≡ (ltb place (length s) && joins a b (pair_in s place))
  first_joins = go (two (any_of (joins a b) s)) (two (ltb place (length s) && joins a b (pair_in s place)))
    where
      found : any_of (joins a b) s ≡ true → (ltb place (length s) && joins a b (pair_in s place)) ≡ true
      found e =
          let t = any_in (joins a b) s e in
          let q = t.0 in
          let k = in_at nothing q s t.1 in
          let here : touches a b (pair_in s k.0) ≡ true = ap (touches a b) k.2 ∙ touches_own a b q t.2 in
          let h : place < length s = omega (arith, place_least (touches a b) nothing s k.0 here, k.1) in
          let same : pair_in s place ≡ q =
          apart (pair_in s place) q (at_in nothing s place h) t.1 (shares_touches a b (pair_in s place) q t.2 ∙ place_passes (touches a b) nothing s h) in
          rw (lt-ltb place (length s) h) (ap (joins a b) same ∙ t.2)

      back : (ltb place (length s) && joins a b (pair_in s place)) ≡ true → any_of (joins a b) s ≡ true
      back e =
          in_any (joins a b) (pair_in s place) s
          (at_in nothing s place (ltb-true place (length s) (and_left (ltb place (length s)) (joins a b (pair_in s place)) e)))
          (and_right (ltb place (length s)) (joins a b (pair_in s place)) e)

      go : (any_of (joins a b) s ≡ true) ⊎ (any_of (joins a b) s ≡ false)
          → ((ltb place (length s) && joins a b (pair_in s place)) ≡ true) ⊎ ((ltb place (length s) && joins a b (pair_in s place)) ≡ false)
          → any_of (joins a b) s ≡ (ltb place (length s) && joins a b (pair_in s place))
      go (inl e) f = e ∙ sym (found e)
      go (inr e) (inl f) = absurd (tf (back f) e)
      go (inr e) (inr f) = e ∙ sym f

  -- so that one look over the listed pairs tells both
  pub selected_listed : joins_at a b (first_meeting a b (listed s)) (listed s) ≡ any_of (joins a b) s
  selected_listed = joins_listed a b s (first_meeting a b (listed s)) ∙ ap (λ (p : ℕ). ltb p (length s) && joins a b (pair_in s p)) (meeting_listed a b s) ∙ sym first_joins
