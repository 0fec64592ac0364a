-- The reason is total and tells what it says: of two ends of a list by name it is one of the five, what is told by it holds, and what is told by no other.
-- A pair that qualifies and isn't selected shares an end with a selected one before it. So the first selected pair that shares one is there; it is that
-- one or stands before it, and so it comes before the pair too.
use Prim.Native.Nat.{ℕ, ◌<◌}
use mathlib.Core.Path.{◌≡◌, refl, sym, ap, subst, fun_ext, ◌∙◌}
use mathlib.Core.Bool.{Bool, true, false, ◌||◌}
use mathlib.Core.Logic.{◌⊎◌, inl, inr}
use mathlib.Core.List.{List, [], ◌∷◌}
use native.Mathlib.Omega.{arith}
use lib.Dec.{eqb}
use lib.Ieee.{Float, nan}
use lib.ListN.{length}
use borrow.Author.Tests.{eqb-true, eqb-false, eq-eqb, ne_eqb}
use Rattle.rules.specs.Answers.{Toward}
use Rattle.rules.specs.Selecting.{End, Pair, pair, qualifying, before, select}
use Rattle.rules.specs.declared.Reason.{Reason}
use Rattle.rules.specs.declared.Reason.TheVariants.{Selected, SamePiece, AbsentDirection, NotQualifying, Blocked}
use Rattle.rules.specs.Lists.{any_of, first_place}
use Rattle.rules.specs.Reasons.{joins, touches, absent, unfit, first_reason, reason}
use Rattle.pair_laws.specs.Sets as sets
use Rattle.pair_laws.specs.Sets.{In}
use Rattle.pair_laws.specs.Ends.{end_at, name_at, ByName}
use Rattle.pair_laws.specs.Settled.{shares}
use Rattle.pair_laws.proofs.Order.{two, tf, three}
use Rattle.pair_laws.proofs.Qualifying.{Measured, in_pair, in_qualifying, qualifying_in, qualifying_measured}
use Rattle.pair_laws.proofs.Keyed.{in_select}
use Rattle.pair_laws.proofs.Settled.{one_place, select_settled, select_ordered}
use Rattle.pair_reasons.specs.Told.{pair_in, Unselected, High, BlockedBy, Told}
use Rattle.pair_reasons.proofs.Sorting.{before_then}
use Rattle.pair_reasons.proofs.Places.{at_in, in_at, order_at, in_any, any_in, place_first, place_passes, place_least, place_is, eq_or_lt}
use Rattle.pair_reasons.proofs.Tests.{eqb_sym, or_sym, joins_cases, joins_either, joins_of, touches_either, shares_touches, present_is, is_present, absent_cases, cases_absent, pair_names, fit_in, in_fit, unfit_either, unfit_high, high_unfit, reason_selected, reason_same, reason_absent, reason_high, reason_blocked}

abbrev nothing : Pair
nothing = record { size = nan; i = 0; j = 0 }

or_false : (a b : Bool) → (a || b) ≡ false → (a ≡ false) × (b ≡ false)
or_false true b e = absurd (tf refl e)
or_false false b e = (refl, e)

module _ (limit : Float) (l : List End) (n : ByName l) where
  -- ---- the pair that blocks

  measured : (p : Pair) → In p (select limit l) → Measured p
  measured p m = qualifying_measured limit l p (in_select limit l p m)

  module _ (a b : ℕ) (m : Pair) (j : joins a b m ≡ true) (q : In m (qualifying limit l)) (u : In m (select limit l) → ⊥) where
    abbrev place : ℕ
    place = first_place (touches a b) (select limit l)

    -- a selected pair before m that shares an end, and the first that shares one
    pub first_blocks : (place < length (select limit l)) × (before (pair_in (select limit l) place) m ≡ true)
    first_blocks = go ((select_settled limit l n).blocked m q)
      where
        go : In m (select limit l) ⊎ sets.Blocked before shares (select limit l) m → (place < length (select limit l)) × (before (pair_in (select limit l) place) m ≡ true)
        go (inl k) = absurd (u k)
        go (inr (p, k, c, d)) =
            let t = in_at nothing p (select limit l) k in
            let e : touches a b (pair_in (select limit l) t.0) ≡ true = ap (touches a b) t.2 ∙ sym (shares_touches a b p m j) ∙ d in
            let o = place_least (touches a b) nothing (select limit l) t.0 e in
            let c' : before (pair_in (select limit l) t.0) m ≡ true = ap (λ (x : Pair). before x m) t.2 ∙ c in
            (omega (arith, o, t.1), sooner t.0 t.1 c' (eq_or_lt place t.0 o))
          where
            sooner : (k : ℕ) → k < length (select limit l) → before (pair_in (select limit l) k) m ≡ true → (place ≡ k) ⊎ (place < k)
                → before (pair_in (select limit l) place) m ≡ true
            sooner k h e (inl z) = ap (λ (x : ℕ). before (pair_in (select limit l) x) m) z ∙ e
            sooner k h e (inr z) =
                before_then (pair_in (select limit l) place) (pair_in (select limit l) k) m
                (measured (pair_in (select limit l) place) (at_in nothing (select limit l) place (omega arith)))
                (measured (pair_in (select limit l) k) (at_in nothing (select limit l) k h))
                (qualifying_measured limit l m q)
                (order_at nothing before (select limit l) (select_ordered limit l n) place k z h) e

  -- ---- two ends

  module _ (a b : ℕ) (a<d : a < length l) (b<d : b < length l) (apart : a ≡ b → ⊥) where
    abbrev x : End
    x = end_at l a

    abbrev y : End
    y = end_at l b

    abbrev why : Reason
    why = reason limit (select limit l) x y

    -- their pair, where they qualify: by the order of the list
    ours : unfit limit x y ≡ false → (m : Pair) × (joins x.name y.name m ≡ true) × In m (qualifying limit l)
    ours e = go (three a b)
      where
        go : (a < b) ⊎ ((a ≡ b) ⊎ (b < a)) → (m : Pair) × (joins x.name y.name m ≡ true) × In m (qualifying limit l)
        go (inl h) =
            let t = fit_in limit x y e in
            let w = pair_names limit x y t.0 t.1 in
            (t.0, joins_of x.name y.name t.0 w.0 w.1, qualifying_in limit t.0 l a b h b<d t.1)
        go (inr (inl h)) = absurd (apart h)
        go (inr (inr h)) =
            let t = fit_in limit y x (sym (unfit_either limit x y) ∙ e) in
            let w = pair_names limit y x t.0 t.1 in (
              t.0,
              joins_either x.name y.name t.0 ∙ joins_of y.name x.name t.0 w.0 w.1,
              qualifying_in limit t.0 l b a h a<d t.1,
            )

    unselected : any_of (joins x.name y.name) (select limit l) ≡ false → Unselected limit l x y
    unselected e p m j = tf (in_any (joins x.name y.name) p (select limit l) m j) e

    no_selected : Unselected limit l x y → any_of (joins x.name y.name) (select limit l) ≡ false
    no_selected u = go (two (any_of (joins x.name y.name) (select limit l)))
      where
        go : (any_of (joins x.name y.name) (select limit l) ≡ true) ⊎ (any_of (joins x.name y.name) (select limit l) ≡ false)
            → any_of (joins x.name y.name) (select limit l) ≡ false
        go (inl e) = (let t = any_in (joins x.name y.name) (select limit l) e in absurd (u t.0 t.1 t.2))
        go (inr e) = e

    blocked_by : any_of (joins x.name y.name) (select limit l) ≡ false → unfit limit x y ≡ false
        → BlockedBy limit l x y (first_place (touches x.name y.name) (select limit l))
    blocked_by e f =
        let m = ours f in
        let u = unselected e in
        let t = first_blocks x.name y.name m.0 m.1 m.2 (λ k. u m.0 k m.1) in
        record {
          ours = m.0;
          joined = m.1;
          qualifies = m.2;
          unselected = u;
          counted = t.0;
          selected = at_in nothing (select limit l) (first_place (touches x.name y.name) (select limit l)) t.0;
          sooner = t.1;
          sharing =
              shares_touches x.name y.name (pair_in (select limit l) (first_place (touches x.name y.name) (select limit l))) m.0 m.1
              ∙ place_passes (touches x.name y.name) nothing (select limit l) t.0;
          earliest = λ q h.
              shares_touches x.name y.name (pair_in (select limit l) q) m.0 m.1
              ∙ place_first (touches x.name y.name) nothing (select limit l) q h;
        }

    high : eqb x.piece y.piece ≡ false → (absent x.direction || absent y.direction) ≡ false → unfit limit x y ≡ true → High limit l x y
    high d e u =
        let f = or_false (absent x.direction) (absent y.direction) e in
        let s = present_is x.direction f.0 in
        let t = present_is y.direction f.1 in
        record {
          ax = s.0;
          ay = s.1;
          bx = t.0;
          by = t.1;
          from = s.2;
          to = t.2;
          high = unfit_high limit x y s.0 s.1 t.0 t.1 d s.2 t.2 u;
        }

    -- the reason tells what it says
    pub told : Told limit l x y why
    told =
        go (two (any_of (joins x.name y.name) (select limit l))) (two (eqb x.piece y.piece)) (two (absent x.direction || absent y.direction)) (two (unfit limit x y))
      where
        go : (any_of (joins x.name y.name) (select limit l) ≡ true) ⊎ (any_of (joins x.name y.name) (select limit l) ≡ false)
            → (eqb x.piece y.piece ≡ true) ⊎ (eqb x.piece y.piece ≡ false)
            → ((absent x.direction || absent y.direction) ≡ true) ⊎ ((absent x.direction || absent y.direction) ≡ false)
            → (unfit limit x y ≡ true) ⊎ (unfit limit x y ≡ false)
            → Told limit l x y why
        go (inl e) c d u = subst (Told limit l x y) (sym (reason_selected limit (select limit l) x y e)) (any_in (joins x.name y.name) (select limit l) e)
        go (inr e) (inl c) d u =
            subst (Told limit l x y) (sym (reason_same limit (select limit l) x y e c)) (unselected e, eqb-true x.piece y.piece c)
        go (inr e) (inr c) (inl d) u =
            subst (Told limit l x y) (sym (reason_absent limit (select limit l) x y e c d))
            (unselected e, eqb-false x.piece y.piece c, absent_cases x.direction y.direction d)
        go (inr e) (inr c) (inr d) (inl u) =
            subst (Told limit l x y) (sym (reason_high limit (select limit l) x y e c d u)) (unselected e, eqb-false x.piece y.piece c, high c d u)
        go (inr e) (inr c) (inr d) (inr u) =
            subst (Told limit l x y) (sym (reason_blocked limit (select limit l) x y e c d u)) (blocked_by e u)

    -- ---- and no other is told

    both_there : (ax ay bx by : Float) → x.direction ≡ Toward ax ay → y.direction ≡ Toward bx by → (absent x.direction || absent y.direction) ≡ false
    both_there ax ay bx by f g = rw (is_present x.direction ax ay f, is_present y.direction bx by g) refl

    -- a qualifying pair of the two names is that of the two ends
    fits_them : (m : Pair) → joins x.name y.name m ≡ true → In m (qualifying limit l) → unfit limit x y ≡ false
    fits_them m j q = go (joins_cases x.name y.name m j)
      where
        s : (a b : ℕ) × (a < b) × (b < length l) × In m (pair limit (end_at l a) (end_at l b))
        s = in_qualifying limit m l q

        w : (m.i ≡ name_at l s.0) × (m.j ≡ name_at l s.1)
        w = pair_names limit (end_at l s.0) (end_at l s.1) m s.4

        go : ((m.i ≡ x.name) × (m.j ≡ y.name)) ⊎ ((m.i ≡ y.name) × (m.j ≡ x.name)) → unfit limit x y ≡ false
        go (inl h) =
            let e = one_place l n s.0 a (omega (arith, s.2, s.3)) a<d (sym w.0 ∙ h.0) in
            let f = one_place l n s.1 b s.3 b<d (sym w.1 ∙ h.1) in
            (λ t. unfit limit (end_at l (sym e t)) (end_at l (sym f t))) ∙ in_fit limit (end_at l s.0) (end_at l s.1) m s.4
        go (inr h) =
            let e = one_place l n s.0 b (omega (arith, s.2, s.3)) b<d (sym w.0 ∙ h.0) in
            let f = one_place l n s.1 a s.3 a<d (sym w.1 ∙ h.1) in
            unfit_either limit x y ∙ (λ t. unfit limit (end_at l (sym e t)) (end_at l (sym f t))) ∙ in_fit limit (end_at l s.0) (end_at l s.1) m s.4

    -- a pair that qualifies and isn't selected is blocked
    pub blocked_when : (m : Pair) → joins x.name y.name m ≡ true → In m (qualifying limit l) → Unselected limit l x y
        → why ≡ Blocked (first_place (touches x.name y.name) (select limit l))
    blocked_when m j q u =
        let f = fits_them m j q in
        let t = fit_in limit x y f in
        let w = in_pair limit x y t.0 t.1 in
        let v = w.1 in
        reason_blocked limit (select limit l) x y (no_selected u) w.0 (both_there v.ax v.ay v.bx v.by v.from v.to) f

    pub told_is : (r : Reason) → Told limit l x y r → why ≡ r
    told_is Selected (p, m, j) = reason_selected limit (select limit l) x y (in_any (joins x.name y.name) p (select limit l) m j)
    told_is SamePiece (u, c) = reason_same limit (select limit l) x y (no_selected u) (eq-eqb x.piece y.piece c)
    told_is AbsentDirection (u, c, d) =
        reason_absent limit (select limit l) x y (no_selected u) (ne_eqb x.piece y.piece c) (cases_absent x.direction y.direction d)
    told_is NotQualifying (u, c, h) =
        reason_high limit (select limit l) x y (no_selected u) (ne_eqb x.piece y.piece c)
        (both_there h.ax h.ay h.bx h.by h.from h.to)
        (high_unfit limit x y h.ax h.ay h.bx h.by h.from h.to h.high)
    told_is (Blocked p) h =
        blocked_when h.ours h.joined h.qualifies h.unselected
        ∙ ap Blocked (sym (place_is (touches x.name y.name) nothing (select limit l) p h.counted
        (sym (shares_touches x.name y.name (pair_in (select limit l) p) h.ours h.joined) ∙ h.sharing)
        (λ q k. sym (shares_touches x.name y.name (pair_in (select limit l) q) h.ours h.joined) ∙ h.earliest q k)))

-- the reason doesn't ask which end comes first
pub reason_either : (limit : Float) (s : List Pair) (a b : End) → reason limit s a b ≡ reason limit s b a
unfolding reason
reason_either limit s a b =
    λ t. first_reason
    ((Selected, any_of (joined t) s)
    ∷ (SamePiece, eqb_sym a.piece b.piece t)
    ∷ (AbsentDirection, or_sym (absent a.direction) (absent b.direction) t)
    ∷ (NotQualifying, unfit_either limit a b t)
    ∷ [])
    (Blocked (first_place (touched t) s))
  where
    joined : joins a.name b.name ≡ joins b.name a.name
    joined = fun_ext (joins_either a.name b.name)

    touched : touches a.name b.name ≡ touches b.name a.name
    touched = fun_ext (touches_either a.name b.name)
