-- What is selected of ends listed by name is settled in the qualifying pairs, and stands in order. One set of qualifying pairs alone is settled, in
-- whatever order it is given, and one list in order. True of ranked selection, and carried over: i and j tell which qualifying pair it is.
use Prim.Native.Nat.{ℕ, ◌<◌}
use mathlib.Core.Path.{◌≡◌, refl, sym, ◌∙◌, ap, ap₂, subst}
use mathlib.Core.Bool.{true}
use mathlib.Core.Logic.{◌⊎◌, inl, inr, ⊎_elim}
use mathlib.Core.List.{List, [], ◌∷◌, map}
use native.Mathlib.Omega.{arith}
use lib.ListN.{length}
use lib.Ieee.{Float}
use Rattle.rules.specs.Answers.{Toward}
use Rattle.rules.specs.Plane.{measure}
use Rattle.rules.specs.Selecting.{End, Pair, pair, qualifying, before, select}
use Rattle.pair_laws.specs.Ranked as ranked
use Rattle.pair_laws.specs.Ranked.{none}
use Rattle.pair_laws.specs.Sets as sets
use Rattle.pair_laws.specs.Sets.{In, Blocked}
use Rattle.pair_laws.specs.Ends.{end_at, name_at, ByName, keyed}
use Rattle.pair_laws.specs.Settled.{shares, Settled, InOrder}
use Rattle.pair_laws.proofs.Order.{three}
use Rattle.pair_laws.proofs.Lists.{in_map, map_in}
use Rattle.pair_laws.proofs.Laws.{taken_settled, taken_ordered, settled_ordered, settled_taken, taken_settles}
use Rattle.pair_laws.proofs.Qualifying.{Measured, in_pair, in_qualifying, qualifying_measured}
use Rattle.pair_laws.proofs.Keyed.{before_keyed, in_select, select_keyed}

-- ---- a pair is known by its ends

-- one name stands at one place
pub one_place : (l : List End) → ByName l → (a b : ℕ) → a < length l → b < length l → name_at l a ≡ name_at l b → a ≡ b
one_place l n a b h k e = go (three a b)
  where
    go : (a < b) ⊎ ((a ≡ b) ⊎ (b < a)) → a ≡ b
    go (inl x) = absurd (omega (arith, n.rises a b x k))
    go (inr (inl x)) = x
    go (inr (inr x)) = absurd (omega (arith, n.rises b a x h))

-- two directions have one pair
pub toward_is : (ax ay bx by : Float) → Toward ax ay ≡ Toward bx by → (ax ≡ bx) × (ay ≡ by)
toward_is ax ay bx by e = let p : ◌≡◌ {A = Float × Float} (ax, ay) (bx, by) = cc in (ap (λ (z : Float × Float). z.0) p, ap (λ (z : Float × Float). z.1) p)

pair_once : (limit : Float) (a b : End) (p q : Pair) → In p (pair limit a b) → In q (pair limit a b) → p ≡ q
pair_once limit a b p q h k =
    let v = (in_pair limit a b p h).1 in
    let w = (in_pair limit a b q k).1 in
    let x = toward_is v.ax v.ay w.ax w.ay (sym v.from ∙ w.from) in
    let y = toward_is v.bx v.by w.bx w.by (sym v.to ∙ w.to) in
    v.is ∙ (λ t. record { size = measure (x.0 t) (x.1 t) (y.0 t) (y.1 t); i = a.name; j = b.name }) ∙ sym w.is

module _ (limit : Float) (l : List End) (n : ByName l) where
  known : (p q : Pair) → In p (qualifying limit l) → In q (qualifying limit l) → p.i ≡ q.i → p.j ≡ q.j → p ≡ q
  known p q h k e f =
      let s = in_qualifying limit p l h in
      let t = in_qualifying limit q l k in
      let v = (in_pair limit (end_at l s.0) (end_at l s.1) p s.4).1.is in
      let w = (in_pair limit (end_at l t.0) (end_at l t.1) q t.4).1.is in
      let g : name_at l t.0 ≡ name_at l s.0 = sym (ap (λ (r : Pair). r.i) w) ∙ sym e ∙ ap (λ (r : Pair). r.i) v in
      let u : name_at l t.1 ≡ name_at l s.1 = sym (ap (λ (r : Pair). r.j) w) ∙ sym f ∙ ap (λ (r : Pair). r.j) v in
      let x = one_place l n t.0 s.0 (omega (arith, t.2, t.3)) (omega (arith, s.2, s.3)) g in
      let y = one_place l n t.1 s.1 t.3 s.3 u in
      pair_once limit (end_at l s.0) (end_at l s.1) p q s.4
      (subst (λ (b : ℕ). In q (pair limit (end_at l s.0) (end_at l b))) y (subst (λ (a : ℕ). In q (pair limit (end_at l a) (end_at l t.1))) x t.4))

  pub known_keyed : (p q : Pair) → In p (qualifying limit l) → In q (qualifying limit l) → keyed p ≡ keyed q → p ≡ q
  known_keyed p q h k e = known p q h k (ap (λ (r : ranked.RankedPair). r.i) e) (ap (λ (r : ranked.RankedPair). r.j) e)

  -- ---- lists of qualifying pairs, with keys and with measures

  module _ (s : List Pair) (of : (q : Pair) → In q s → In q (qualifying limit l)) where
    in_keyed : (p : Pair) → In p (qualifying limit l) → In (keyed p) (map keyed s) → In p s
    in_keyed p h m =
        let t = in_map keyed (keyed p) s m in
        subst (λ (q : Pair). In q s) (sym (known_keyed p t.0 h (of t.0 t.1) t.2)) t.1

    measured : (q : Pair) → In q s → Measured q
    measured q m = qualifying_measured limit l q (of q m)

  keyed_once : (s t : List Pair) → ((q : Pair) → In q s → In q (qualifying limit l)) → ((q : Pair) → In q t → In q (qualifying limit l))
      → map keyed s ≡ map keyed t → s ≡ t
  keyed_once [] [] f g e = refl
  keyed_once [] (y ∷ t) f g e = (let z : ◌≡◌ {A = ℕ} 0 1 = cc in absurd (omega arith))
  keyed_once (x ∷ s) [] f g e = (let z : ◌≡◌ {A = ℕ} 0 1 = cc in absurd (omega arith))
  keyed_once (x ∷ s) (y ∷ t) f g e =
      let a : keyed x ≡ keyed y = cc in
      let b : map keyed s ≡ map keyed t = cc in
      ap₂ {C = List Pair} (λ p r. p ∷ r) (known_keyed x y (f x (inl refl)) (g y (inl refl)) a) (keyed_once s t (λ q m. f q (inr m)) (λ q m. g q (inr m)) b)

-- the order of pairs is that of keys
order_keyed : (s : List Pair) → ((q : Pair) → In q s → Measured q) → InOrder s → sets.InOrder ranked.before (map keyed s)
order_keyed [] h o = tt
order_keyed (x ∷ s) h o = (first, order_keyed s (λ q m. h q (inr m)) o.1)
  where
    first : (q : ranked.RankedPair) → In q (map keyed s) → ranked.before (keyed x) q ≡ true
    first q m =
        let t = in_map keyed q s m in
        ap (ranked.before (keyed x)) t.2 ∙ sym (before_keyed x t.0 (h x (inl refl)) (h t.0 (inr t.1))) ∙ o.0 t.0 t.1

keyed_order : (s : List Pair) → ((q : Pair) → In q s → Measured q) → sets.InOrder ranked.before (map keyed s) → InOrder s
keyed_order [] h o = tt
keyed_order (x ∷ s) h o =
    (λ q m. before_keyed x q (h x (inl refl)) (h q (inr m)) ∙ o.0 (keyed q) (map_in keyed q s m), keyed_order s (λ q m. h q (inr m)) o.1)

shares_keyed : (p q : Pair) → shares p q ≡ sets.shares (keyed p) (keyed q)
unfolding shares sets.shares
shares_keyed p q = refl

-- ---- the laws

module _ (limit : Float) (l : List End) (n : ByName l) where
  abbrev taken : List ranked.RankedPair
  taken = ranked.greedy none (ranked.sort ranked.before (map keyed (qualifying limit l)))

  in_taken : (p : Pair) → In p (select limit l) → In (keyed p) taken
  in_taken p m = subst (In (keyed p)) (select_keyed limit l) (map_in keyed p (select limit l) m)

  taken_in : (p : Pair) → In p (qualifying limit l) → In (keyed p) taken → In p (select limit l)
  taken_in p h m = in_keyed limit l n (select limit l) (in_select limit l) p h (subst (In (keyed p)) (sym (select_keyed limit l)) m)

  pub select_settled : Settled (qualifying limit l) (select limit l)
  select_settled = record { within = in_select limit l; apart = apart; blocked = blocked }
    where
      at : sets.Settled ranked.before sets.shares (map keyed (qualifying limit l)) taken
      at = taken_settled (map keyed (qualifying limit l))

      apart : (p q : Pair) → In p (select limit l) → In q (select limit l) → shares p q ≡ true → p ≡ q
      apart p q h k e =
          known_keyed limit l n p q (in_select limit l p h) (in_select limit l q k)
          (at.apart (keyed p) (keyed q) (in_taken p h) (in_taken q k) (sym (shares_keyed p q) ∙ e))

      blocked : (p : Pair) → In p (qualifying limit l) → In p (select limit l) ⊎ Blocked before shares (select limit l) p
      blocked p h =
          ⊎_elim
          (λ (k : In (keyed p) taken). inl (taken_in p h k))
          (λ (k : Blocked ranked.before sets.shares taken (keyed p)). inr (by k))
          (at.blocked (keyed p) (map_in keyed p (qualifying limit l) h))
        where
          by : Blocked ranked.before sets.shares taken (keyed p) → Blocked before shares (select limit l) p
          by (b, m, c, d) =
              let t = in_map keyed b (select limit l) (subst (In b) (sym (select_keyed limit l)) m) in (
                t.0,
                t.1,
                before_keyed t.0 p (qualifying_measured limit l t.0 (in_select limit l t.0 t.1)) (qualifying_measured limit l p h)
                    ∙ ap (λ (x : ranked.RankedPair). ranked.before x (keyed p)) (sym t.2) ∙ c,
                shares_keyed t.0 p ∙ ap (λ (x : ranked.RankedPair). sets.shares x (keyed p)) (sym t.2) ∙ d,
              )

  pub select_ordered : InOrder (select limit l)
  select_ordered =
      keyed_order (select limit l) (measured limit l n (select limit l) (in_select limit l))
      (subst (sets.InOrder ranked.before) (sym (select_keyed limit l)) (taken_ordered (map keyed (qualifying limit l))))

  -- a settled set, with keys
  module _ (s : List Pair) (h : Settled (qualifying limit l) s) where
    settled_keyed : sets.Settled ranked.before sets.shares (map keyed (qualifying limit l)) (map keyed s)
    settled_keyed = record { within = within; apart = apart; blocked = blocked }
      where
        within : (q : ranked.RankedPair) → In q (map keyed s) → In q (map keyed (qualifying limit l))
        within q m =
            let t = in_map keyed q s m in
            subst (λ (x : ranked.RankedPair). In x (map keyed (qualifying limit l))) (sym t.2) (map_in keyed t.0 (qualifying limit l) (h.within t.0 t.1))

        apart : (p q : ranked.RankedPair) → In p (map keyed s) → In q (map keyed s) → sets.shares p q ≡ true → p ≡ q
        apart p q m k e =
            let t = in_map keyed p s m in
            let u = in_map keyed q s k in
            t.2 ∙ ap keyed (h.apart t.0 u.0 t.1 u.1 (shares_keyed t.0 u.0 ∙ sym (ap₂ sets.shares t.2 u.2) ∙ e)) ∙ sym u.2

        blocked : (q : ranked.RankedPair) → In q (map keyed (qualifying limit l)) → In q (map keyed s) ⊎ Blocked ranked.before sets.shares (map keyed s) q
        blocked q m =
            let t = in_map keyed q (qualifying limit l) m in
            ⊎_elim
            (λ (k : In t.0 s). inl (subst (λ (x : ranked.RankedPair). In x (map keyed s)) (sym t.2) (map_in keyed t.0 s k)))
            (λ (k : Blocked before shares s t.0). inr (by t.0 t.1 t.2 k))
            (h.blocked t.0 t.1)
          where
            by : (p : Pair) → In p (qualifying limit l) → q ≡ keyed p → Blocked before shares s p → Blocked ranked.before sets.shares (map keyed s) q
            by p g e (b, k, c, d) = (
              keyed b,
              map_in keyed b s k,
              ap (ranked.before (keyed b)) e ∙ sym (before_keyed b p (measured limit l n s h.within b k) (qualifying_measured limit l p g)) ∙ c,
              ap (sets.shares (keyed b)) e ∙ sym (shares_keyed b p) ∙ d,
            )

    -- it has the selected pairs and no other
    pub settled_selected : (p : Pair) → In p s → In p (select limit l)
    settled_selected p m =
        taken_in p (h.within p m) (settled_taken (map keyed (qualifying limit l)) (map keyed s) settled_keyed (keyed p) (map_in keyed p s m))

    pub selected_settled : (p : Pair) → In p (select limit l) → In p s
    selected_settled p m =
        in_keyed limit l n s h.within p (in_select limit l p m)
        (taken_settles (map keyed (qualifying limit l)) (map keyed s) settled_keyed (keyed p) (in_taken p m))

    -- and in order it is the selection
    pub settled_is : InOrder s → s ≡ select limit l
    settled_is o =
        keyed_once limit l n s (select limit l) h.within (in_select limit l)
        (settled_ordered (map keyed (qualifying limit l)) (map keyed s) settled_keyed (order_keyed s (measured limit l n s h.within) o)
        ∙ sym (select_keyed limit l))
