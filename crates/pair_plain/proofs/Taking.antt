-- A turn that takes a pair, and the end. The least key of all rows is that of the least pair held; if its partner isn't marked, that is the next pair of the
-- selection. Where the least key is a NaN's, no row holds a pair, and all is taken.
use Prim.Native.Nat.{ℕ, ◌+◌, ◌*◌, ◌-◌, ◌≤◌, ◌<◌}
use mathlib.Core.Path.{◌≡◌, refl, sym, ap, ◌∙◌, subst}
use mathlib.Core.Bool.{Bool, true, false}
use mathlib.Core.Logic.{◌⊎◌, inl, inr}
use mathlib.Core.List.{List, [], ◌∷◌, ◌++◌, append-nil, append_assoc}
use native.Mathlib.Omega.{arith}
use lib.Dec.{eqb}
use lib.Ieee.{Float}
use lib.ListN.{length, get_or, set, take, drop, length-set, length-append, get_or-append}
use lib.Seq.{slice, length-slice, ext_get_or, get_or-set_same, get_or-set_other, get_or-append-add, take-set-le, take-set-lt, drop-set-lt, drop-set-add}
use borrow.Author.Tests.{eqb-true, eqb-false}
use Rattle.float_order.specs.Key.{key_nan, key}
use Rattle.pair_laws.specs.Ranked.{RankedPair, candidates, busy, mark, select_from, select}
use Rattle.pair_laws.specs.Sets.{In, Least}
use Rattle.pair_laws.specs.Taking.{used_of, listed}
use Rattle.pair_laws.proofs.Order.{two, Three, three}
use Rattle.pair_laws.proofs.Laws.{in_candidates, select_step, select_stop}
use Rattle.pair_laws.proofs.Taking.{used_mark, length_listed, listed_append}
use Rattle.pair_laws.proofs.Room.{ranked_room}
use Rattle.pair_ends.specs.Blocks.{pairs_from, marks_from, row_keys_from, partners_from, tops_end}
use Rattle.rules.specs.Refusals.{end_room}
use Rattle.pair_ends.specs.Ends.{EndsRoom, Selected, direction_at, ends_in}
use Rattle.pair_ends.proofs.Reading.{get_d_slice, ends_in_length}
use Rattle.pair_first_of_end.specs.declared.Held.{Held}
use Rattle.pair_first_of_end.specs.Near.{numbered}
use Rattle.pair_first_of_end.specs.Row.{mark_at, used_in, pair_of}
use Rattle.pair_first_of_end.proofs.Walk.{used_marked, used_free}
use Rattle.pair_plain.specs.declared.Low.{Low}
use Rattle.pair_plain.specs.Lows.{IsLow}
use Rattle.pair_plain.specs.Steps.{held_at, both, listed_in, marked_in, taken_from}
use Rattle.pair_plain.proofs.Frames.{take_same, drop_same}
use Rattle.pair_plain.proofs.Holding.{Holding, holding_mark, holding_none, none_free, least_held}
use Rattle.pair_plain.proofs.Turns.{Core, node, row, pairs_fit}

-- ---- the stores

both_other : (w : List ℕ) (a b x y k : ℕ) → (k ≡ a → ⊥) → (k ≡ b → ⊥) → get_or (both w a b x y) k 0 ≡ get_or w k 0
both_other w a b x y k f g = get_or-set_other (set w a x) b k y 0 g ∙ get_or-set_other w a k x 0 f

both_first : (w : List ℕ) (a b x y : ℕ) → (a ≡ b → ⊥) → a < length w → get_or (both w a b x y) a 0 ≡ x
both_first w a b x y f h = get_or-set_other (set w a x) b a y 0 f ∙ get_or-set_same w a x 0 h

both_second : (w : List ℕ) (a b x y : ℕ) → b < length w → get_or (both w a b x y) b 0 ≡ y
both_second w a b x y h = get_or-set_same (set w a x) b y 0 (simp length-set h)

-- a part of a list in which two words were stored, before it, in it, and beyond it
both_before : (w : List ℕ) (p q a b x y : ℕ) → a < p → b < p → p ≤ q → slice p q (both w a b x y) ≡ slice p q w
both_before w p q a b x y f g h = before (set w a x) b y g ∙ before w a x f
  where
    before : (l : List ℕ) (k v : ℕ) → k < p → slice p q (set l k v) ≡ slice p q l
    before l k v e = ap (drop p) (take-set-lt q l k v (omega arith)) ∙ drop-set-lt p (take q l) k v e

both_in : (w : List ℕ) (p q i j x y : ℕ) → p + i < q → p + j < q → slice p q (both w (p + i) (p + j) x y) ≡ set (set (slice p q w) i x) j y
both_in w p q i j x y f g = at (set w (p + i) x) j y g ∙ ap (λ (l : List ℕ). set l j y) (at w i x f)
  where
    at : (l : List ℕ) (k v : ℕ) → p + k < q → slice p q (set l (p + k) v) ≡ set (slice p q l) k v
    at l k v e = ap (drop p) (take-set-lt q l (p + k) v e) ∙ drop-set-add p (take q l) k v

both_beyond : (w : List ℕ) (p q a b x y : ℕ) → q ≤ a → q ≤ b → slice p q (both w a b x y) ≡ slice p q w
both_beyond w p q a b x y f g = ap (drop p) (take-set-le q (set w a x) b y g ∙ take-set-le q w a x f)

module _ (w : List ℕ) (d n i j : ℕ) where
  pub taken_long : length (taken_from w d n i j) ≡ length w
  taken_long = simp length-set

  pub taken_other : (x : ℕ) → (x ≡ d * pairs_from + n * 2 → ⊥) → (x ≡ d * pairs_from + n * 2 + 1 → ⊥) → (x ≡ d * marks_from + i → ⊥) → (x ≡ d * marks_from + j → ⊥) → (x ≡ d * row_keys_from + i → ⊥) → (x ≡ d * row_keys_from + j → ⊥)
      → get_or (taken_from w d n i j) x 0 ≡ get_or w x 0
  taken_other x a b e f g h =
      both_other (marked_in (listed_in w d n i j) d i j) (d * row_keys_from + i) (d * row_keys_from + j) key_nan key_nan x g h
      ∙ both_other (listed_in w d n i j) (d * marks_from + i) (d * marks_from + j) 1 1 x e f
      ∙ both_other w (d * pairs_from + n * 2) (d * pairs_from + n * 2 + 1) i j x a b

  module _ (room : d * tops_end ≤ length w) (fit : n * 2 + 2 ≤ d) (i<j : i < j) (j<d : j < d) where
    taken_marks_lem : slice (d * marks_from) (d * row_keys_from) (taken_from w d n i j) ≡ set (set (slice (d * marks_from) (d * row_keys_from) w) i 1) j 1
    taken_marks_lem =
        both_beyond (marked_in (listed_in w d n i j) d i j) (d * marks_from) (d * row_keys_from) (d * row_keys_from + i) (d * row_keys_from + j) key_nan key_nan (omega arith) (omega arith)
        ∙ both_in (listed_in w d n i j) (d * marks_from) (d * row_keys_from) i j 1 1 (omega arith) (omega arith)
        ∙ ap (λ (l : List ℕ). set (set l i 1) j 1) (both_before w (d * marks_from) (d * row_keys_from) (d * pairs_from + n * 2) (d * pairs_from + n * 2 + 1) i j (omega arith) (omega arith) (omega arith))

    taken_used : (p : RankedPair) → p.i ≡ i → p.j ≡ j → used_in (taken_from w d n i j) d ≡ mark p (used_in w d)
    taken_used p e f =
        ap used_of (taken_marks_lem ∙ (λ t. set (set (slice (d * marks_from) (d * row_keys_from) w) (sym e t) 1) (sym f t) 1))
        ∙ used_mark (slice (d * marks_from) (d * row_keys_from) w) p (omega (arith, marks)) (omega (arith, marks))
      where
        marks : length (slice (d * marks_from) (d * row_keys_from) w) ≡ d * row_keys_from - d * marks_from
        marks = length-slice (d * marks_from) (d * row_keys_from) w (omega arith)

    mark_i : mark_at (taken_from w d n i j) d i ≡ 1
    mark_i =
        both_other (marked_in (listed_in w d n i j) d i j) (d * row_keys_from + i) (d * row_keys_from + j) key_nan key_nan (d * marks_from + i) (λ e. omega arith) (λ e. omega arith)
        ∙ both_first (listed_in w d n i j) (d * marks_from + i) (d * marks_from + j) 1 1 (λ e. omega arith) (simp length-set (omega arith))

    mark_j : mark_at (taken_from w d n i j) d j ≡ 1
    mark_j =
        both_other (marked_in (listed_in w d n i j) d i j) (d * row_keys_from + i) (d * row_keys_from + j) key_nan key_nan (d * marks_from + j) (λ e. omega arith) (λ e. omega arith)
        ∙ both_second (listed_in w d n i j) (d * marks_from + i) (d * marks_from + j) 1 1 (simp length-set (omega arith))

    key_i : get_or (taken_from w d n i j) (d * row_keys_from + i) 0 ≡ key_nan
    key_i = both_first (marked_in (listed_in w d n i j) d i j) (d * row_keys_from + i) (d * row_keys_from + j) key_nan key_nan (λ e. omega arith) (simp length-set (omega arith))

    key_j : get_or (taken_from w d n i j) (d * row_keys_from + j) 0 ≡ key_nan
    key_j = both_second (marked_in (listed_in w d n i j) d i j) (d * row_keys_from + i) (d * row_keys_from + j) key_nan key_nan (simp length-set (omega arith))

    -- the pairs' region is as it is listed
    taken_listed : (k : ℕ) → d * pairs_from ≤ k → k < d * marks_from → get_or (taken_from w d n i j) k 0 ≡ get_or (listed_in w d n i j) k 0
    taken_listed k f g =
        both_other (marked_in (listed_in w d n i j) d i j) (d * row_keys_from + i) (d * row_keys_from + j) key_nan key_nan k (λ e. omega arith) (λ e. omega arith)
        ∙ both_other (listed_in w d n i j) (d * marks_from + i) (d * marks_from + j) 1 1 k (λ e. omega arith) (λ e. omega arith)

    pair_i : get_or (taken_from w d n i j) (d * pairs_from + n * 2) 0 ≡ i
    pair_i = taken_listed (d * pairs_from + n * 2) (omega arith) (omega arith) ∙ both_first w (d * pairs_from + n * 2) (d * pairs_from + n * 2 + 1) i j (λ e. omega arith) (omega arith)

    pair_j : get_or (taken_from w d n i j) (d * pairs_from + n * 2 + 1) 0 ≡ j
    pair_j = taken_listed (d * pairs_from + n * 2 + 1) (omega arith) (omega arith) ∙ both_second w (d * pairs_from + n * 2) (d * pairs_from + n * 2 + 1) i j (omega arith)

-- ---- one pair more is listed

listed_more : (s : List RankedPair) (p : RankedPair) → listed (s ++ p ∷ []) ≡ listed s ++ p.i ∷ p.j ∷ []
listed_more s p = listed_append s (p ∷ []) ∙ ap (λ (l : List ℕ). listed s ++ l) one
  where
    one : listed (p ∷ []) ≡ p.i ∷ p.j ∷ []
    one = unfold listed in refl

module _ (s : List RankedPair) (p : RankedPair) (n : ℕ) (count : length s ≡ n) where
  long : length (listed s) ≡ n * 2
  long = omega (arith, length_listed s)

  listed_before : (k : ℕ) → k < n * 2 → get_or (listed (s ++ p ∷ [])) k 0 ≡ get_or (listed s) k 0
  listed_before k h = ap (λ (l : List ℕ). get_or l k 0) (listed_more s p) ∙ get_or-append (listed s) (p.i ∷ p.j ∷ []) 0 k (omega (arith, long))

  listed_first : get_or (listed (s ++ p ∷ [])) (n * 2) 0 ≡ p.i
  listed_first =
      let e : n * 2 ≡ length (listed s) + 0 = omega (arith, long) in
      ap (λ (l : List ℕ). get_or l (n * 2) 0) (listed_more s p)
      ∙ ap (λ (k : ℕ). get_or (listed s ++ p.i ∷ p.j ∷ []) k 0) e
      ∙ get_or-append-add (listed s) (p.i ∷ p.j ∷ []) 0 0

  listed_second : get_or (listed (s ++ p ∷ [])) (n * 2 + 1) 0 ≡ p.j
  listed_second =
      let e : n * 2 + 1 ≡ length (listed s) + 1 = omega (arith, long) in
      ap (λ (l : List ℕ). get_or l (n * 2 + 1) 0) (listed_more s p)
      ∙ ap (λ (k : ℕ). get_or (listed s ++ p.i ∷ p.j ∷ []) k 0) e
      ∙ get_or-append-add (listed s) (p.i ∷ p.j ∷ []) 1 0

-- ---- what holds between turns holds after a pair is taken

module _
    (w₀ : List ℕ)
    (d : ℕ)
    (limit : Float)
    (room : EndsRoom w₀ d)
    (w : List ℕ)
    (n : ℕ)
    (c : Core w₀ d limit w n)
    (p : RankedPair)
    (lower : p.i < p.j)
    (inside : p.j < d)
    (fit : n * 2 + 2 ≤ d)
    (step : select_from (node w₀ d) (key limit) (used_in w d) ≡ p ∷ select_from (node w₀ d) (key limit) (mark p (used_in w d))) where
  ten : d * tops_end ≤ length w
  ten = omega (arith, room.long, c.long)

  used : used_in (taken_from w d n p.i p.j) d ≡ mark p (used_in w d)
  used = taken_used w d n p.i p.j ten fit lower inside p refl refl

  -- an end is one of the pair's, or another
  which : (P : ℕ → Type 0) (e : ℕ) → P p.i → P p.j → ((e ≡ p.i → ⊥) → (e ≡ p.j → ⊥) → P e) → P e
  which P e a b o = first (two (eqb e p.i))
    where
      second : (e ≡ p.i → ⊥) → (eqb e p.j ≡ true) ⊎ (eqb e p.j ≡ false) → P e
      second f (inl k) = subst P (sym (eqb-true e p.j k)) b
      second f (inr k) = o f (eqb-false e p.j k)

      first : (eqb e p.i ≡ true) ⊎ (eqb e p.i ≡ false) → P e
      first (inl k) = subst P (sym (eqb-true e p.i k)) a
      first (inr k) = second (eqb-false e p.i k) (two (eqb e p.j))

  mark_same : (e : ℕ) → e < d → (e ≡ p.i → ⊥) → (e ≡ p.j → ⊥) → mark_at (taken_from w d n p.i p.j) d e ≡ mark_at w d e
  mark_same e h f g =
      taken_other w d n p.i p.j (d * marks_from + e) (λ q. omega arith) (λ q. omega arith) (λ q. f (omega arith)) (λ q. g (omega arith)) (λ q. omega arith) (λ q. omega arith)

  key_same : (e : ℕ) → e < d → (e ≡ p.i → ⊥) → (e ≡ p.j → ⊥) → get_or (taken_from w d n p.i p.j) (d * row_keys_from + e) 0 ≡ get_or w (d * row_keys_from + e) 0
  key_same e h f g =
      taken_other w d n p.i p.j (d * row_keys_from + e) (λ q. omega arith) (λ q. omega arith) (λ q. omega arith) (λ q. omega arith) (λ q. f (omega arith)) (λ q. g (omega arith))

  pub core_more : Core w₀ d limit (taken_from w d n p.i p.j) (n + 1)
  core_more =
      record {
        long = taken_long w d n p.i p.j ∙ c.long;
        kept = λ x h. away x (inl h) ∙ c.kept x h;
        beyond = λ x h. away x (inr (omega arith)) ∙ c.beyond x h;
        free = λ e h. which (λ e. e < d → mark_at (taken_from w d n p.i p.j) d e ≡ 0 → numbered (direction_at w₀ d e) ≡ true) e
            (λ _ m. absurd (omega (arith, mark_i w d n p.i p.j ten fit lower inside)))
            (λ _ m. absurd (omega (arith, mark_j w d n p.i p.j ten fit lower inside)))
            (λ f g k m. c.free e k (sym (mark_same e k f g) ∙ m))
            h;
        taken = c.taken ++ p ∷ [];
        count = omega (arith, length-append c.taken (p ∷ []), c.count);
        pairs = λ k h. pairs k h (three k (n * 2));
        left =
            append_assoc c.taken (p ∷ []) (select_from (node w₀ d) (key limit) (used_in (taken_from w d n p.i p.j) d))
            ∙ ap (λ (u : ℕ → Bool). c.taken ++ p ∷ select_from (node w₀ d) (key limit) u) used
            ∙ ap (λ (l : List RankedPair). c.taken ++ l) (sym step)
            ∙ c.left;
        rows = λ x h. which (λ e. e < d → Holding (node w₀ d) (key limit) (used_in (taken_from w d n p.i p.j) d) e (row (taken_from w d n p.i p.j) d e)) x
            (λ k. gone p.i k (mark_i w d n p.i p.j ten fit lower inside) (key_i w d n p.i p.j ten fit lower inside))
            (λ k. gone p.j k (mark_j w d n p.i p.j ten fit lower inside) (key_j w d n p.i p.j ten fit lower inside))
            (λ f g k. other_row x k f g)
            h;
        idle = λ e h. which (λ e. e < d → (mark_at (taken_from w d n p.i p.j) d e ≡ 0 → ⊥) → get_or (taken_from w d n p.i p.j) (d * row_keys_from + e) 0 ≡ key_nan) e
            (λ _ _. key_i w d n p.i p.j ten fit lower inside)
            (λ _ _. key_j w d n p.i p.j ten fit lower inside)
            (λ f g k m. key_same e k f g ∙ c.idle e k (λ z. m (mark_same e k f g ∙ z)))
            h;
      }
    where
      away : (x : ℕ) → (x < d * pairs_from) ⊎ (d * partners_from ≤ x) → get_or (taken_from w d n p.i p.j) x 0 ≡ get_or w x 0
      away x (inl h) =
          taken_other w d n p.i p.j x (λ q. omega arith) (λ q. omega arith) (λ q. omega arith) (λ q. omega arith) (λ q. omega arith) (λ q. omega arith)
      away x (inr h) =
          taken_other w d n p.i p.j x (λ q. omega arith) (λ q. omega arith) (λ q. omega arith) (λ q. omega arith) (λ q. omega arith) (λ q. omega arith)

      pairs : (k : ℕ) → k < (n + 1) * 2 → Three k (n * 2) → get_or (taken_from w d n p.i p.j) (d * pairs_from + k) 0 ≡ get_or (listed (c.taken ++ p ∷ [])) k 0
      pairs k h (inl a) =
          taken_other w d n p.i p.j (d * pairs_from + k) (λ q. omega arith) (λ q. omega arith) (λ q. omega arith) (λ q. omega arith) (λ q. omega arith) (λ q. omega arith)
          ∙ c.pairs k a
          ∙ sym (listed_before c.taken p n c.count k a)
      pairs k h (inr (inl a)) =
          ap (λ (y : ℕ). get_or (taken_from w d n p.i p.j) (d * pairs_from + y) 0) a
          ∙ pair_i w d n p.i p.j ten fit lower inside
          ∙ sym (ap (λ (y : ℕ). get_or (listed (c.taken ++ p ∷ [])) y 0) a ∙ listed_first c.taken p n c.count)
      pairs k h (inr (inr a)) =
          let e : k ≡ n * 2 + 1 = omega arith in
          let f : d * pairs_from + k ≡ d * pairs_from + n * 2 + 1 = omega arith in
          ap (λ (y : ℕ). get_or (taken_from w d n p.i p.j) y 0) f
          ∙ pair_j w d n p.i p.j ten fit lower inside
          ∙ sym (ap (λ (y : ℕ). get_or (listed (c.taken ++ p ∷ [])) y 0) e ∙ listed_second c.taken p n c.count)

      -- the row of an end of the pair
      gone : (e : ℕ) → e < d → mark_at (taken_from w d n p.i p.j) d e ≡ 1 → get_or (taken_from w d n p.i p.j) (d * row_keys_from + e) 0 ≡ key_nan
          → Holding (node w₀ d) (key limit) (used_in (taken_from w d n p.i p.j) d) e (row (taken_from w d n p.i p.j) d e)
      gone e h m k =
          holding_none (node w₀ d) (key limit) (used_in (taken_from w d n p.i p.j) d) e (row (taken_from w d n p.i p.j) d e)
          (used_marked (taken_from w d n p.i p.j) d e h (λ z. omega (arith, m)))
          (omega (arith, k))

      other_row : (x : ℕ) → x < d → (x ≡ p.i → ⊥) → (x ≡ p.j → ⊥)
          → Holding (node w₀ d) (key limit) (used_in (taken_from w d n p.i p.j) d) x (row (taken_from w d n p.i p.j) d x)
      other_row x h f g =
          rw used
          (subst (λ (a : Held). Holding (node w₀ d) (key limit) (mark p (used_in w d)) x (pair_of x a)) same
          (holding_mark (node w₀ d) (key limit) (used_in w d) x (row w d x) p (c.rows x h)))
        where
          same : held_at w d x ≡ held_at (taken_from w d n p.i p.j) d x
          same = λ t. record { key = sym (key_same x h f g) t; partner = sym (away (d * partners_from + x) (inr (omega arith))) t }

-- ---- the least pair held

module _ (w₀ : List ℕ) (d : ℕ) (limit : Float) (room : EndsRoom w₀ d) (below : key limit < key_nan) (w : List ℕ) (n : ℕ) (c : Core w₀ d limit w n) where
  ends_are : length (ends_in w₀ d) ≡ d
  ends_are = ends_in_length w₀ d (omega (arith, room.long))

  module _ (low : Low) (top : IsLow w (d * row_keys_from) 0 d low) where
    -- no row holds a pair
    pub all_taken : key_nan ≤ low.key → Selected w₀ d (key limit) n w
    all_taken h =
        record {
          count = sym c.count ∙ ap length all;
          pairs = ext_get_or 0 (slice (d * pairs_from) (d * pairs_from + n * 2) w) (listed (select (node w₀ d) (key limit))) lengths (λ k g. listed_at k (omega (arith, part)));
          kept = take_same w₀ w c.long (d * pairs_from) c.kept;
          beyond = drop_same w₀ w c.long (d * end_room) c.beyond;
        }
      where
        nothing : select_from (node w₀ d) (key limit) (used_in w d) ≡ []
        nothing =
            select_stop (node w₀ d) (key limit) (used_in w d)
            (none_free (node w₀ d) (key limit) (used_in w d) (row w d) (λ x g. c.rows x (omega (arith, ends_are))) (λ x g. omega (arith, top.least x (omega arith) (omega (arith, ends_are)))))

        all : c.taken ≡ select (node w₀ d) (key limit)
        all = sym (append-nil c.taken) ∙ ap (λ (l : List RankedPair). c.taken ++ l) (sym nothing) ∙ c.left

        part : length (slice (d * pairs_from) (d * pairs_from + n * 2) w) ≡ d * pairs_from + n * 2 - d * pairs_from
        part = length-slice (d * pairs_from) (d * pairs_from + n * 2) w (omega (arith, pairs_fit w₀ d limit room below w n c, c.long, room.long))

        lengths : length (slice (d * pairs_from) (d * pairs_from + n * 2) w) ≡ length (listed (select (node w₀ d) (key limit)))
        lengths = omega (arith, part, length_listed (select (node w₀ d) (key limit)), ap length all, c.count)

        listed_at : (k : ℕ) → k < n * 2 → get_or (slice (d * pairs_from) (d * pairs_from + n * 2) w) k 0 ≡ get_or (listed (select (node w₀ d) (key limit))) k 0
        listed_at k g = get_d_slice (d * pairs_from) (d * pairs_from + n * 2) w k (omega arith) ∙ c.pairs k g ∙ ap (λ (l : List RankedPair). get_or (listed l) k 0) all

    -- a row does
    module _ (some : low.key < key_nan) where
      pub top_below : low.place < d
      top_below = (top.there some).1

      key_is : get_or w (d * row_keys_from + low.place) 0 ≡ low.key
      key_is = (top.there some).2

      held : In (row w d low.place) (candidates (node w₀ d) (key limit))
      held = (c.rows low.place top_below).member (omega (arith, key_is))

      pub top_partner : (low.place < get_or w (d * partners_from + low.place) 0) × (get_or w (d * partners_from + low.place) 0 < d)
      top_partner = (let t = (in_candidates (node w₀ d) (key limit) (row w d low.place) held).0 in (t.lower, omega (arith, t.below, ends_are)))

      -- the row's own end isn't marked
      pub top_free : mark_at w d low.place ≡ 0
      top_free = go (two (eqb (mark_at w d low.place) 0))
        where
          go : (eqb (mark_at w d low.place) 0 ≡ true) ⊎ (eqb (mark_at w d low.place) 0 ≡ false) → mark_at w d low.place ≡ 0
          go (inl e) = eqb-true (mark_at w d low.place) 0 e
          go (inr e) = absurd (omega (arith, key_is, c.idle low.place top_below (eqb-false (mark_at w d low.place) 0 e)))

      module _ (free : mark_at w d (get_or w (d * partners_from + low.place) 0) ≡ 0) where
        next : Least (used_in w d) (candidates (node w₀ d) (key limit)) (row w d low.place)
        unfolding busy
        next =
            least_held (node w₀ d) (key limit) (used_in w d) (row w d) (λ x g. c.rows x (omega (arith, ends_are))) low.place (omega (arith, top_below, ends_are))
            (omega (arith, key_is))
            (λ x g. omega (arith, key_is, top.least x (omega arith) (omega (arith, ends_are))))
            (λ x g e. top.first x (omega arith) (omega (arith, ends_are)) some (e ∙ key_is))
            (λ x. refl)
            (rw (used_free w d low.place top_below top_free, used_free w d (get_or w (d * partners_from + low.place) 0) top_partner.1 free))

        step : select_from (node w₀ d) (key limit) (used_in w d) ≡ row w d low.place ∷ select_from (node w₀ d) (key limit) (mark (row w d low.place) (used_in w d))
        step = select_step (node w₀ d) (key limit) (used_in w d) (row w d low.place) next

        pub take_fits : n * 2 + 2 ≤ d
        take_fits =
            omega (
              arith,
              ranked_room (node w₀ d) (key limit),
              ends_are,
              c.count,
              ap length c.left,
              length-append c.taken (select_from (node w₀ d) (key limit) (used_in w d)),
              ap length step,
            )

        pub core_take : Core w₀ d limit (taken_from w d n low.place (get_or w (d * partners_from + low.place) 0)) (n + 1)
        core_take = core_more w₀ d limit room w n c (row w d low.place) top_partner.0 top_partner.1 take_fits step
