-- The tests of a reason, one after another: which ends a pair has, whether two ends qualify, and which reason comes of the tests. None of them asks
-- which end comes first.
use Prim.Native.Nat.{ℕ}
use mathlib.Core.Path.{◌≡◌, refl, sym, ap, ap₂, subst, ◌∙◌}
use mathlib.Core.Bool.{Bool, true, false, ◌&&◌, ◌||◌}
use mathlib.Core.Logic.{◌⊎◌, inl, inr, ⊎_elim}
use mathlib.Core.List.{List, [], ◌∷◌}
use lib.Dec.{eqb}
use lib.Ieee.{Float, le}
use borrow.Author.Tests.{eqb-true, eqb-false, eq-eqb, ne_eqb}
use Rattle.pair_laws.proofs.Settled.{toward_is}
use Rattle.rules.specs.Answers.{Direction}
use Rattle.rules.specs.Answers.{Absent, Toward}
use Rattle.rules.specs.Plane.{measure}
use Rattle.rules.specs.Selecting.{End, Pair, within, pair}
use Rattle.rules.specs.declared.Reason.TheVariants.{Selected, SamePiece, AbsentDirection, NotQualifying, Blocked}
use Rattle.rules.specs.Lists.{any_of, first_place}
use Rattle.rules.specs.Reasons.{joins, touches, absent, unfit, first_reason, reason}
use Rattle.float_order.proofs.Dot.{measure_sym}
use Rattle.pair_laws.specs.Sets.{In}
use Rattle.pair_laws.specs.Settled.{shares}
use Rattle.pair_laws.proofs.Order.{two, tf, and_left, and_right}
use Rattle.pair_laws.proofs.Qualifying.{in_pair, within_in, pair_is}

-- ---- the ends of a pair

pub eqb_sym : (m n : ℕ) → eqb m n ≡ eqb n m
eqb_sym m n = go (two (eqb m n))
  where
    go : (eqb m n ≡ true) ⊎ (eqb m n ≡ false) → eqb m n ≡ eqb n m
    go (inl e) = e ∙ sym (eq-eqb n m (sym (eqb-true m n e)))
    go (inr e) = e ∙ sym (ne_eqb n m (λ k. eqb-false m n e (sym k)))

or_cases : (a b : Bool) → (a || b) ≡ true → (a ≡ true) ⊎ (b ≡ true)
or_cases true b e = inl refl
or_cases false b e = inr e

pub or_sym : (a b : Bool) → (a || b) ≡ (b || a)
or_sym true true = refl
or_sym true false = refl
or_sym false true = refl
or_sym false false = refl

-- a pair of two ends has them, in one order or the other
pub joins_cases : (a b : ℕ) (p : Pair) → joins a b p ≡ true → ((p.i ≡ a) × (p.j ≡ b)) ⊎ ((p.i ≡ b) × (p.j ≡ a))
unfolding joins
joins_cases a b p e =
    ⊎_elim
    (λ (k : (eqb p.i a && eqb p.j b) ≡ true).
    inl (eqb-true p.i a (and_left (eqb p.i a) (eqb p.j b) k), eqb-true p.j b (and_right (eqb p.i a) (eqb p.j b) k)))
    (λ (k : (eqb p.i b && eqb p.j a) ≡ true).
    inr (eqb-true p.i b (and_left (eqb p.i b) (eqb p.j a) k), eqb-true p.j a (and_right (eqb p.i b) (eqb p.j a) k)))
    (or_cases (eqb p.i a && eqb p.j b) (eqb p.i b && eqb p.j a) e)

pub joins_either : (a b : ℕ) (p : Pair) → joins a b p ≡ joins b a p
unfolding joins
joins_either a b p = or_sym (eqb p.i a && eqb p.j b) (eqb p.i b && eqb p.j a)

pub joins_of : (a b : ℕ) (p : Pair) → p.i ≡ a → p.j ≡ b → joins a b p ≡ true
unfolding joins
joins_of a b p e f = rw (eq-eqb p.i a e, eq-eqb p.j b f)

pub touches_either : (a b : ℕ) (p : Pair) → touches a b p ≡ touches b a p
unfolding touches
touches_either a b p = ap₂ ◌||◌ (or_sym (eqb p.i a) (eqb p.i b)) (or_sym (eqb p.j a) (eqb p.j b))

four : (a b c d : Bool) → (a || b || c || d) ≡ ((a || c) || (b || d))
four true b c d = refl
four false true true d = refl
four false true false d = refl
four false false true d = refl
four false false false d = refl

shares_own : (p q : Pair) → shares p q ≡ touches q.i q.j p
unfolding shares touches
shares_own p q =
    four (eqb q.i p.i) (eqb q.i p.j) (eqb q.j p.i) (eqb q.j p.j)
    ∙ rw (eqb_sym q.i p.i, eqb_sym q.i p.j, eqb_sym q.j p.i, eqb_sym q.j p.j) refl

-- to share an end with the pair of two ends is to have one of them
pub shares_touches : (a b : ℕ) (p q : Pair) → joins a b q ≡ true → shares p q ≡ touches a b p
shares_touches a b p q e = shares_own p q ∙ go (joins_cases a b q e)
  where
    go : ((q.i ≡ a) × (q.j ≡ b)) ⊎ ((q.i ≡ b) × (q.j ≡ a)) → touches q.i q.j p ≡ touches a b p
    go (inl h) = ap₂ (λ (m n : ℕ). touches m n p) h.0 h.1
    go (inr h) = ap₂ (λ (m n : ℕ). touches m n p) h.0 h.1 ∙ touches_either b a p

-- ---- directions

pub absent_is : (a : Direction) → absent a ≡ true → a ≡ Absent
unfolding absent
absent_is Absent e = refl
absent_is (Toward x y) e = absurd (tf e refl)

pub is_absent_lem : (a : Direction) → a ≡ Absent → absent a ≡ true
unfolding absent
is_absent_lem a e = ap absent e

pub present_is : (a : Direction) → absent a ≡ false → (x y : Float) × (a ≡ Toward x y)
unfolding absent
present_is Absent e = absurd (tf refl e)
present_is (Toward x y) e = (x, y, refl)

pub is_present : (a : Direction) (x y : Float) → a ≡ Toward x y → absent a ≡ false
unfolding absent
is_present a x y e = ap absent e

pub absent_cases : (a b : Direction) → (absent a || absent b) ≡ true → (a ≡ Absent) ⊎ (b ≡ Absent)
absent_cases a b e =
    ⊎_elim (λ (k : absent a ≡ true). inl (absent_is a k)) (λ (k : absent b ≡ true). inr (absent_is b k)) (or_cases (absent a) (absent b) e)

pub cases_absent : (a b : Direction) → (a ≡ Absent) ⊎ (b ≡ Absent) → (absent a || absent b) ≡ true
cases_absent a b (inl e) = ap (λ (t : Bool). t || absent b) (is_absent_lem a e)
cases_absent a b (inr e) = or_sym (absent a) (absent b) ∙ ap (λ (t : Bool). t || absent a) (is_absent_lem b e)

-- ---- whether two ends qualify

module _ (limit : Float) (a b : End) where
  pub fit_in : unfit limit a b ≡ false → (p : Pair) × In p (pair limit a b)
  unfolding unfit
  fit_in e = go (pair limit a b) e
    where
      go : (l : List Pair) → ◌≡◌ {A = Bool} (elim l [ [] ↦ true | p ∷ r ↦ false ]) false → (p : Pair) × In p l
      go [] e = absurd (tf refl e)
      go (p ∷ r) e = (p, inl refl)

  pub in_fit : (p : Pair) → In p (pair limit a b) → unfit limit a b ≡ false
  unfolding unfit
  in_fit p m = go (pair limit a b) m
    where
      go : (l : List Pair) → In p l → ◌≡◌ {A = Bool} (elim l [ [] ↦ true | q ∷ r ↦ false ]) false
      go [] m = absurd m
      go (q ∷ r) m = refl

  pub pair_names : (p : Pair) → In p (pair limit a b) → (p.i ≡ a.name) × (p.j ≡ b.name)
  pair_names p m = (let v = (in_pair limit a b p m).1.is in (ap (λ (q : Pair). q.i) v, ap (λ (q : Pair). q.j) v))

-- the same of the two in the other order
pub fit_turned : (limit : Float) (a b : End) → unfit limit a b ≡ false → unfit limit b a ≡ false
fit_turned limit a b e =
    let t = fit_in limit a b e in
    let w = in_pair limit a b t.0 t.1 in
    let v = w.1 in
    let low : le (measure v.bx v.by v.ax v.ay) limit ≡ true =
    ap (λ (m : Float). le m limit) (measure_sym v.bx v.by v.ax v.ay) ∙ v.low in
    let other : eqb b.piece a.piece ≡ false = eqb_sym b.piece a.piece ∙ w.0 in
    in_fit limit b a (record { size = measure v.bx v.by v.ax v.ay; i = b.name; j = a.name })
    (subst (In (record { size = measure v.bx v.by v.ax v.ay; i = b.name; j = a.name })) (sym (pair_is limit b a other))
    (subst (λ (x : Direction). In (record { size = measure v.bx v.by v.ax v.ay; i = b.name; j = a.name }) (within limit b.name a.name x a.direction)) (sym v.to)
    (subst (λ (y : Direction). In (record { size = measure v.bx v.by v.ax v.ay; i = b.name; j = a.name }) (within limit b.name a.name (Toward v.bx v.by) y)) (sym v.from)
    (within_in limit b.name a.name v.bx v.by v.ax v.ay low))))

pub unfit_either : (limit : Float) (a b : End) → unfit limit a b ≡ unfit limit b a
unfit_either limit a b = go (two (unfit limit a b)) (two (unfit limit b a))
  where
    go : (unfit limit a b ≡ true) ⊎ (unfit limit a b ≡ false) → (unfit limit b a ≡ true) ⊎ (unfit limit b a ≡ false) → unfit limit a b ≡ unfit limit b a
    go (inl e) (inl f) = e ∙ sym f
    go (inl e) (inr f) = absurd (tf e (fit_turned limit b a f))
    go (inr e) (inl f) = absurd (tf f (fit_turned limit a b e))
    go (inr e) (inr f) = e ∙ sym f

-- two present ends of different pieces don't qualify where their measure isn't at or below the limit
pub unfit_high : (limit : Float) (a b : End) (ax ay bx by : Float) → eqb a.piece b.piece ≡ false → a.direction ≡ Toward ax ay → b.direction ≡ Toward bx by
    → unfit limit a b ≡ true → le (measure ax ay bx by) limit ≡ false
unfit_high limit a b ax ay bx by d f g u = go (two (le (measure ax ay bx by) limit))
  where
    it : Pair
    it = record { size = measure ax ay bx by; i = a.name; j = b.name }

    go : (le (measure ax ay bx by) limit ≡ true) ⊎ (le (measure ax ay bx by) limit ≡ false) → le (measure ax ay bx by) limit ≡ false
    go (inl e) = absurd (tf u (in_fit limit a b it
        (subst (In it) (sym (pair_is limit a b d ∙ ap₂ (within limit a.name b.name) f g)) (within_in limit a.name b.name ax ay bx by e))))
    go (inr e) = e

pub high_unfit : (limit : Float) (a b : End) (ax ay bx by : Float) → a.direction ≡ Toward ax ay → b.direction ≡ Toward bx by
    → le (measure ax ay bx by) limit ≡ false → unfit limit a b ≡ true
high_unfit limit a b ax ay bx by from to h = go (two (unfit limit a b))
  where
    go : (unfit limit a b ≡ true) ⊎ (unfit limit a b ≡ false) → unfit limit a b ≡ true
    go (inl e) = e
    go (inr e) =
        let t = fit_in limit a b e in
        let w = (in_pair limit a b t.0 t.1).1 in
        let f : Toward w.ax w.ay ≡ Toward ax ay = sym w.from ∙ from in
        let g : Toward w.bx w.by ≡ Toward bx by = sym w.to ∙ to in
        let p = toward_is w.ax w.ay ax ay f in
        let q = toward_is w.bx w.by bx by g in
        absurd (tf ((λ i. le (measure (sym p.0 i) (sym p.1 i) (sym q.0 i) (sym q.1 i)) limit) ∙ w.low) h)

-- ---- the reason, by the tests

module _ (limit : Float) (s : List Pair) (a b : End) where
  pub reason_selected : any_of (joins a.name b.name) s ≡ true → reason limit s a b ≡ Selected
  unfolding reason first_reason
  reason_selected e = rw (e, first_reason)

  module _ (n : any_of (joins a.name b.name) s ≡ false) where
    pub reason_same : eqb a.piece b.piece ≡ true → reason limit s a b ≡ SamePiece
    unfolding reason first_reason
    reason_same e = rw (n, e, first_reason)

    module _ (d : eqb a.piece b.piece ≡ false) where
      pub reason_absent : (absent a.direction || absent b.direction) ≡ true → reason limit s a b ≡ AbsentDirection
      unfolding reason first_reason
      reason_absent e = rw (n, d, e, first_reason)

      pub reason_high : (absent a.direction || absent b.direction) ≡ false → unfit limit a b ≡ true → reason limit s a b ≡ NotQualifying
      unfolding reason first_reason
      reason_high e u = rw (n, d, e, u, first_reason)

      pub reason_blocked : (absent a.direction || absent b.direction) ≡ false → unfit limit a b ≡ false
          → reason limit s a b ≡ Blocked (first_place (touches a.name b.name) s)
      unfolding reason first_reason
      reason_blocked e u = rw (n, d, e, u, first_reason)
