-- The heap's first node is the least of its leaves, since each node is the lesser of its children. Codes are in the order of pairs and give back the pair and its
-- owner; so the first node is the first of the pairs that the slots hold, with its owner.
use Prim.Native.Nat.{ℕ, zero, suc, ◌+◌, ◌-◌, ◌*◌, ◌/◌, ◌%◌, ◌≤◌, ◌<◌, min}
use mathlib.Core.Path.{◌≡◌, refl, sym, ap, ap₂, ◌∙◌}
use mathlib.Core.Bool.{Bool, true, false, cond}
use mathlib.Core.List.{List}
use mathlib.Core.Logic.{◌⊎◌, inl, inr, ⊎_elim}
use native.Mathlib.Omega.{arith}
use native.Mathlib.Nat.{le_trans, le_of_eq}
use lib.Dec.{eqb}
use lib.ListN.{get_or}
use borrow.Author.Tests.{eq-eqb, ne_eqb, eqb-true, eqb-false}
use Rattle.pair_bounds.specs.Search.{place}
use Rattle.pair_bounds.proofs.Search.{place_same}
use Rattle.pair_laws.specs.Ranked.{RankedPair, before}
use Rattle.pair_laws.specs.Sets.{EndOf}
use Rattle.pair_laws.proofs.Order.{of_at_before}
use Rattle.pair_tree.specs.Flat.{NodesKept}
use Rattle.pair_tree.specs.Places.{gone, none}
use Rattle.pair_tree.proofs.Flat.{below_or, same_or}
use mir.Val.{bool_byte}
use Rattle.pair_heap.specs.declared.Entry.{Entry}
use Rattle.pair_tree.specs.Rows.{Any}
use Rattle.pair_bounds.specs.Reading.{place_at}
use Rattle.pair_heap.specs.Heap.{node_at, Heaps, code_of, coded, Decoded}

-- ---- the first node

module _ (N : ℕ → ℕ) (base : ℕ) (l : ℕ → ℕ) (k : NodesKept min Any N base 1 0 l) where
  up : (f m : ℕ) → m < f → 0 < m → m < 2 * base → N 1 ≤ N m
  up zero m h p q = absurd (omega arith)
  up (suc f) m h p q =
      ⊎_elim
      (λ (e : m ≡ 1). rw e (omega arith))
      (λ (e : m ≡ 1 → ⊥).
      le_trans (up f (m / 2) (omega arith) (omega arith) (omega arith)) (step m (m / 2) (omega arith) (omega arith) (halves m)))
      (same_or m 1)
    where
      halves : (m : ℕ) → (m ≡ 2 * (m / 2)) ⊎ (m ≡ 2 * (m / 2) + 1)
      halves m = ⊎_elim (λ (e : m ≡ 2 * (m / 2)). inl e) (λ (e : m ≡ 2 * (m / 2) → ⊥). inr (omega arith)) (same_or m (2 * (m / 2)))

      step : (m q : ℕ) → 0 < q → q < base → (m ≡ 2 * q) ⊎ (m ≡ 2 * q + 1) → N q ≤ N m
      step m q a b (inl e) = rw e (omega (arith, k.inner q a b (omega arith)))
      step m q a b (inr e) = rw e (omega (arith, k.inner q a b (omega arith)))

  top_le : (e : ℕ) → e < base → N 1 ≤ l e
  top_le e h = le_trans (up (base + e + 1) (base + e) (omega arith) (omega arith) (omega arith)) (le_of_eq (k.leaves e h))

  down : (f n : ℕ) → 2 * base ≤ n + f → 0 < n → n < 2 * base → (e : ℕ) × (e < base) × (N n ≡ l e)
  down zero n h p q = absurd (omega arith)
  down (suc f) n h p q =
      ⊎_elim
      (λ (c : n < base).
      ⊎_elim
      (λ (d : N (2 * n) < N (2 * n + 1)).
      let t = down f (2 * n) (omega arith) (omega arith) (omega arith) in (t.0, t.1, pick c ∙ left d ∙ t.2))
      (λ (d : N (2 * n + 1) ≤ N (2 * n)).
      let t = down f (2 * n + 1) (omega arith) (omega arith) (omega arith) in (t.0, t.1, pick c ∙ right d ∙ t.2))
      (below_or (N (2 * n)) (N (2 * n + 1))))
      (λ (c : base ≤ n). (n - base, omega arith, ap N (back c) ∙ k.leaves (n - base) (omega arith)))
      (below_or n base)
    where
      back : base ≤ n → n ≡ base + (n - base)
      back c = omega arith

      pick : n < base → N n ≡ min (N (2 * n)) (N (2 * n + 1))
      pick c = k.inner n p c (omega arith)

      left : N (2 * n) < N (2 * n + 1) → min (N (2 * n)) (N (2 * n + 1)) ≡ N (2 * n)
      left d = omega arith

      right : N (2 * n + 1) ≤ N (2 * n) → min (N (2 * n)) (N (2 * n + 1)) ≡ N (2 * n + 1)
      right d = omega arith

  top_is : 0 < base → (e : ℕ) × (e < base) × (N 1 ≡ l e)
  top_is h = down (2 * base) 1 (omega arith) (omega arith) (omega arith)

-- ---- codes

module _ (o : ℕ) (p : RankedPair) where
  bit : (u : Bool) → cond u 1 0 ≤ 1
  bit true = omega arith
  bit false = omega arith

  pub code_at : (t : ℕ) × (t ≤ 1) × (code_of o p ≡ (p.i * 8192 + p.j) * 2 + t)
  unfolding code_of
  code_at = (cond (eqb o p.j) 1 0, bit (eqb o p.j), refl)

  pub coded_none : p.j ≡ 0 → coded o p ≡ none
  unfolding coded
  coded_none e = rw (eq-eqb p.j 0 e)

  pub coded_some : 0 < p.j → coded o p ≡ place p.key (code_of o p)
  unfolding coded
  coded_some h = rw (ne_eqb p.j 0 (λ e. omega arith))

  pub code_small : p.i < 8192 → p.j < 8192 → code_of o p < gone
  code_small a b = let t = code_at in omega (arith, t.1, t.2)

  -- the owner is told by the bit
  owner_back : EndOf o p → cond (eqb (code_of o p % 2) 1) p.j p.i ≡ o
  unfolding code_of
  owner_back w = go (eqb o p.j) refl w
    where
      odd : (n : ℕ) → (n * 2 + 1) % 2 ≡ 1
      odd n = omega arith

      even : (n : ℕ) → (n * 2 + 0) % 2 ≡ 0
      even n = omega arith

      go : (u : Bool) → eqb o p.j ≡ u → EndOf o p → cond (eqb (((p.i * 8192 + p.j) * 2 + cond u 1 0) % 2) 1) p.j p.i ≡ o
      go true e x = rw (odd (p.i * 8192 + p.j)) (sym (eqb-true o p.j e))
      go false e (inl x) = rw (even (p.i * 8192 + p.j)) (sym x)
      go false e (inr x) = absurd (eqb-false o p.j e x)

-- codes are in the order of pairs
in_order : (o m : ℕ) (p q : RankedPair) → p.j < 8192 → q.j < 8192 → place p.key (code_of o p) ≤ place q.key (code_of m q) → code_of o p ≤ gone → code_of m q ≤ gone
    → before q p ≡ false
in_order o m p q a b h s t = of_at_before p q (keys p.key q.key (code_of o p) (code_of m q) h s t (ends (code_at o p) (code_at m q)))
  where
    keys : (k l x y : ℕ) → place k x ≤ place l y → x ≤ gone → y ≤ gone → (x ≤ y → (p.i < q.i) ⊎ ((p.i ≡ q.i) × (p.j ≤ q.j)))
        → (k < l) ⊎ ((k ≡ l) × ((p.i < q.i) ⊎ ((p.i ≡ q.i) × (p.j ≤ q.j))))
    keys k l x y h s t f = ⊎_elim (λ (d : k < l). inl d) (λ (d : l ≤ k). inr (omega arith, f (omega arith))) (below_or k l)

    ends : (t : ℕ) × (t ≤ 1) × (code_of o p ≡ (p.i * 8192 + p.j) * 2 + t) → (t : ℕ) × (t ≤ 1) × (code_of m q ≡ (q.i * 8192 + q.j) * 2 + t)
        → code_of o p ≤ code_of m q → (p.i < q.i) ⊎ ((p.i ≡ q.i) × (p.j ≤ q.j))
    ends (t, t1, e) (u, u1, f) g = ⊎_elim (λ (d : p.i < q.i). inl d) (λ (d : q.i ≤ p.i). inr (omega arith, omega arith)) (below_or p.i q.i)

-- ---- the candidates of the slots: that of slot s is P s, and its owner is `owner s`

pub record Plausible (owner : ℕ → ℕ) (P : ℕ → RankedPair) (base : ℕ) : Type 0 where
  pub lower : (s : ℕ) → s < base → 0 < (P s).j → (P s).i < (P s).j
  pub below : (s : ℕ) → s < base → 0 < (P s).j → (P s).j < 8192
  pub owned : (s : ℕ) → s < base → 0 < (P s).j → EndOf (owner s) (P s)
  pub keyed : (s : ℕ) → s < base → 0 < (P s).j → (P s).key < gone

-- r is the candidate of slot s, and none is before it
pub record AtSlot (owner : ℕ → ℕ) (P : ℕ → RankedPair) (base : ℕ) (r : Entry) (s : ℕ) : Type 0 where
  pub within : s < base
  pub some : 0 < (P s).j
  pub owner_is : owner s ≡ r.owner
  pub i_is : (P s).i ≡ r.i
  pub j_is : (P s).j ≡ r.j
  pub first : (x : ℕ) → x < base → 0 < (P x).j → before (P x) (P s) ≡ false

above : (k i l j : ℕ) → k < l → i ≤ gone → place k i < place l j
above k i l j h g = omega arith

under_all : (k i : ℕ) → k < gone → i ≤ gone → place k i < none
unfolding none
under_all k i h g = above k i gone gone h g

none_code : (k i : ℕ) → i ≤ gone → place k i ≡ none → i ≡ gone
unfolding none
none_code k i h e = (place_same k i gone gone (omega arith) (omega arith) e).1

not_zero : (n : ℕ) → (n ≡ 0 → ⊥) → 0 < n
not_zero n h = omega arith

less : {a b : ℕ} → a < b → a ≤ b
less q = omega arith

module _ (w : List ℕ) (h base : ℕ) (owner : ℕ → ℕ) (P : ℕ → RankedPair) (z : 0 < base) (p : Plausible owner P base) (k : Heaps w h base (λ s. coded (owner s) (P s))) (r : Entry)
    (d : Decoded (get_or w (h + 3) 0) r) where
  abbrev key : ℕ
  key = get_or w (h + 2) 0

  abbrev code : ℕ
  code = get_or w (h + 3) 0

  first_is : node_at w h 1 ≡ place key code
  unfolding place_at
  first_is = ap (λ (x : ℕ). place key (get_or w x 0)) next
    where
      next : h + 2 + 1 ≡ h + 3
      next = omega arith

  least : (x : ℕ) → x < base → place key code ≤ coded (owner x) (P x)
  least x l = le_trans (le_of_eq (sym first_is)) (top_le (node_at w h) base (λ s. coded (owner s) (P s)) k x l)

  small : (x : ℕ) → x < base → 0 < (P x).j → code_of (owner x) (P x) < gone
  small x u v = code_small (owner x) (P x) (omega (arith, p.lower x u v, p.below x u v)) (p.below x u v)

  -- where the first node is none, no slot has a pair
  empty : place key code ≡ none → (x : ℕ) → x < base → (P x).j ≡ 0
  empty e x l =
      ⊎_elim (λ (y : (P x).j ≡ 0). y)
      (λ (y : (P x).j ≡ 0 → ⊥).
      let s = not_zero (P x).j y in
      absurd (clash (place key code) none (coded (owner x) (P x)) (place (P x).key (code_of (owner x) (P x))) e (least x l) (coded_some (owner x) (P x) s)
      (under_all (P x).key (code_of (owner x) (P x)) (p.keyed x l s) (less (small x l s)))))
      (same_or (P x).j 0)
    where
      clash : (a b c g : ℕ) → a ≡ b → a ≤ c → c ≡ g → g < b → ⊥
      clash a b c g x y v w = omega arith

  some : (m : ℕ) → m < base → 0 < (P m).j → place key code ≡ place (P m).key (code_of (owner m) (P m)) → AtSlot owner P base r m
  some m l s e =
      record {
        within = l;
        some = s;
        owner_is = sym owner_m;
        i_is = sym i_back;
        j_is = sym j_back;
        first =
            λ x u v.
            in_order (owner m) (owner x) (P m) (P x) (p.below m l s) (p.below x u v)
            (le_trans (le_of_eq (sym e)) (le_trans (least x u) (le_of_eq (coded_some (owner x) (P x) v)))) (less (small m l s)) (less (small x u v));
      }
    where
      parts : (key ≡ (P m).key) × (code ≡ code_of (owner m) (P m))
      parts = place_same key code (P m).key (code_of (owner m) (P m)) (omega (arith, d.word)) (omega (arith, small m l s)) e

      there : code ≡ gone → ⊥
      there y = omega (arith, y, parts.1, small m l s)

      i_back : r.i ≡ (P m).i
      i_back = let t = code_at (owner m) (P m) in omega (arith, d.i_is there, parts.1, t.1, t.2, p.below m l s)

      j_back : r.j ≡ (P m).j
      j_back = let t = code_at (owner m) (P m) in omega (arith, d.j_is there, parts.1, t.1, t.2, p.below m l s)

      owner_m : r.owner ≡ owner m
      owner_m =
          d.owner_is there
          ∙ ap₂ (λ (c x : ℕ). cond (eqb (c % 2) 1) x (code / 16384)) parts.1 (sym (d.j_is there) ∙ j_back)
          ∙ ap (λ (x : ℕ). cond (eqb (code_of (owner m) (P m) % 2) 1) (P m).j x) (sym (d.i_is there) ∙ i_back)
          ∙ owner_back (owner m) (P m) (p.owned m l s)

  -- the first node is one of the slots'
  which : (place key code ≡ none) ⊎ ((s : ℕ) × AtSlot owner P base r s)
  which = let t = top_is (node_at w h) base (λ s. coded (owner s) (P s)) k z in go t.0 t.1 (sym first_is ∙ t.2)
    where
      go : (m : ℕ) → m < base → place key code ≡ coded (owner m) (P m) → (place key code ≡ none) ⊎ ((s : ℕ) × AtSlot owner P base r s)
      go m l e =
          ⊎_elim
          (λ (y : (P m).j ≡ 0). inl (e ∙ coded_none (owner m) (P m) y))
          (λ (y : (P m).j ≡ 0 → ⊥). inr (m, some m l (not_zero (P m).j y) (e ∙ coded_some (owner m) (P m) (not_zero (P m).j y))))
          (same_or (P m).j 0)

  pub no_pair : r.j ≡ 0 → (x : ℕ) → x < base → (P x).j ≡ 0
  no_pair e =
      ⊎_elim
      (λ (y : place key code ≡ none). empty y)
      (λ (y : (s : ℕ) × AtSlot owner P base r s). absurd (omega (arith, e, y.1.some, y.1.j_is)))
      which

  pub a_pair : (r.j ≡ 0 → ⊥) → (s : ℕ) × AtSlot owner P base r s
  a_pair e =
      ⊎_elim
      (λ (y : place key code ≡ none). absurd (e (d.nothing (none_code key code d.word y))))
      (λ (y : (s : ℕ) × AtSlot owner P base r s). y)
      which

  -- a code stands for a pair, which has an upper end
  pub code_pair : (code ≡ gone → ⊥) → r.j ≡ 0 → ⊥
  code_pair n e =
      ⊎_elim
      (λ (y : place key code ≡ none). n (none_code key code d.word y))
      (λ (y : (s : ℕ) × AtSlot owner P base r s). omega (arith, e, y.1.some, y.1.j_is))
      which

-- ---- whose entry a slot has

-- one place is of one owner, and of a pair
pub coded_owner : (o m : ℕ) (p q : RankedPair) → coded o p ≡ coded m q → 0 < q.j → q.i < 8192 → q.j < 8192 → EndOf m q
    → (0 < p.j → (p.i < 8192) × (p.j < 8192) × EndOf o p) → (0 < p.j) × (o ≡ m)
coded_owner o m p q e s a b w f =
    ⊎_elim
    (λ (x : p.j ≡ 0).
    absurd (omega (
      arith,
      none_code q.key (code_of m q) (less (code_small m q a b)) (sym (coded_some m q s) ∙ sym e ∙ coded_none o p x),
      code_small m q a b,
    )))
    (λ (x : p.j ≡ 0 → ⊥). let k = not_zero p.j x in (k, same (f k) (code k (f k)) (code_at o p) (code_at m q)))
    (same_or p.j 0)
  where
    code : 0 < p.j → (p.i < 8192) × (p.j < 8192) × EndOf o p → code_of o p ≡ code_of m q
    code k (u, v, y) =
        (place_same p.key (code_of o p) q.key (code_of m q) (omega (arith, code_small o p u v)) (omega (arith, code_small m q a b)) (sym (coded_some o p k) ∙ e ∙ coded_some m q s)).1

    same : (p.i < 8192) × (p.j < 8192) × EndOf o p → code_of o p ≡ code_of m q → (t : ℕ) × (t ≤ 1) × (code_of o p ≡ (p.i * 8192 + p.j) * 2 + t)
        → (t : ℕ) × (t ≤ 1) × (code_of m q ≡ (q.i * 8192 + q.j) * 2 + t) → o ≡ m
    same (u, v, y) c (t, t1, g) (r, r1, h) =
        let i : p.i ≡ q.i = omega arith in
        let j : p.j ≡ q.j = omega arith in
        sym (owner_back o p y) ∙ (λ z. cond (eqb (c z % 2) 1) (j z) (i z)) ∙ owner_back m q w

-- ---- what the code works out

-- the bit of the owner is a test, as a number
pub coded_is : (o : ℕ) (p : RankedPair) → 0 < p.j → place p.key ((p.i * 8192 + p.j) * 2 + bool_byte (eqb o p.j)) ≡ coded o p
coded_is o p h = ap (λ (c : ℕ). place p.key c) bit ∙ sym (coded_some o p h)
  where
    number : (b : Bool) → bool_byte b ≡ cond b 1 0
    number true = refl
    number false = refl

    bit : (p.i * 8192 + p.j) * 2 + bool_byte (eqb o p.j) ≡ code_of o p
    bit = unfold code_of in ap (λ (x : ℕ). (p.i * 8192 + p.j) * 2 + x) (number (eqb o p.j))
