-- What a line makes of the marks is what it makes of the possible places: the mark of a place moves to the mark of the place that the line leads to, and no
-- other mark comes to be there.
use Prim.Native.Nat.{ℕ, suc, ◌+◌, ◌-◌, ◌*◌, ◌≤◌, ◌<◌}
use mathlib.Core.Path.{◌≡◌, refl, sym, ap, ◌∙◌, subst}
use mathlib.Core.Bool.{Bool, true, false, ◌&&◌, ◌||◌, cond, and-eq-true_iff}
use mathlib.Core.Logic.{◌⊎◌, inl, inr}
use mathlib.Core.List.{List}
use native.Mathlib.Decide.{dec_lt}
use native.Mathlib.Omega.{arith}
use lib.ListN.{get_or}
use Rattle.rules.specs.declared.Meeting.{Meeting}
use Rattle.rules.specs.Plane.{Point}
use Rattle.rules.specs.Refusals.{most_points}
use Rattle.check_laws.specs.Standing.{size_of, fit_at, fresh_at, joint_at, LineLeads}
use Rattle.check_marks.specs.Marks.{has, shared, open_to, mark_here, mark_before, goes_on, moved}
use Rattle.check_marks.proofs.Sets.{has_set, has_there, set_none, set_small, shared_way, way_shared}
use Rattle.check_marks.proofs.Moving.{here_yes, here_no, before_yes, before_no}
use Rattle.check_chains.specs.declared.Held.{Held}
use Rattle.check_chains.specs.Chains.{Live, Steady, Steps}

-- ---- where a mark comes from

-- a line that fits goes on from the mark before or from the mark here
goes : (fit : Bool) (opened : ℕ) (fresh : Bool) (here before : ℕ) → goes_on fit opened fresh here before ≡ true
    → (fit ≡ true) × ((shared opened before ≡ true) ⊎ ((fresh ≡ true) × (shared opened here ≡ true)))
unfolding goes_on
goes fit opened fresh here before e =
    let a = (and-eq-true_iff fit (shared opened before || (fresh && shared opened here))).0 e in
    (a.0, go (shared opened before) refl a.1)
  where
    go : (b : Bool) → shared opened before ≡ b → (shared opened before || (fresh && shared opened here)) ≡ true
        → (shared opened before ≡ true) ⊎ ((fresh ≡ true) × (shared opened here ≡ true))
    go true q f = inl q
    go false q f = inr (let t = (and-eq-true_iff fresh (shared opened here)).0 (sym (ap (λ (x : Bool). x || (fresh && shared opened here)) q) ∙ f) in (t.0, t.1))

goes_before : (fit : Bool) (opened : ℕ) (fresh : Bool) (here before : ℕ) → fit ≡ true → shared opened before ≡ true → goes_on fit opened fresh here before ≡ true
unfolding goes_on
goes_before fit opened fresh here before e s =
    (and-eq-true_iff fit (shared opened before || (fresh && shared opened here))).1 (e, ap (λ (x : Bool). x || (fresh && shared opened here)) s)

goes_here : (fit : Bool) (opened : ℕ) (fresh : Bool) (here before : ℕ) → fit ≡ true → fresh ≡ true → shared opened here ≡ true → goes_on fit opened fresh here before ≡ true
unfolding goes_on
goes_here fit opened fresh here before e f s =
    (and-eq-true_iff fit (shared opened before || (fresh && shared opened here))).1
    (e, ap (λ (x : Bool). shared opened before || x) ((and-eq-true_iff fresh (shared opened here)).1 (f, s)) ∙ last (shared opened before))
  where
    last : (x : Bool) → (x || true) ≡ true
    last true = refl
    last false = refl

-- ---- the marks before and after

module _ (m : Meeting) (chain p l : List Point) (i : ℕ) (marks : List ℕ) (h : Held) (steady : Steady marks h i) (live : h.low < h.end) where
  abbrev from : ℕ
  from = h.base - h.end

  abbrev opened : Bool → ℕ
  opened e = open_to m p l e

  -- in a direction in which the line may be taken, a row tells where it fits, and the sizes told are its own
  pub record Fits (e : Bool) (fits : List Bool) (size : ℕ) : Type 0 where
    pub told : (opened e ≡ 0 → ⊥) → (x : ℕ) → x < h.end - h.low + 1 → get_or fits x false ≡ fit_at chain e l (from + x)
    pub sized : (opened e ≡ 0 → ⊥) → (x : ℕ) → x < h.end - h.low + 1 → fit_at chain e l (from + x) ≡ true → size ≡ size_of l
    pub most : size ≤ size_of l

  opened_joint : (d e : Bool) → has d (opened e) ≡ joint_at m p d l e
  unfolding open_to
  opened_joint d e = has_set d (joint_at m p false l e) (joint_at m p true l e) ∙ which d
    where
      which : (d : Bool) → cond d (joint_at m p true l e) (joint_at m p false l e) ≡ joint_at m p d l e
      which true = refl
      which false = refl

  module _ (drawnFits turnedFits : List Bool) (a b size : ℕ) (fd : Fits false drawnFits a) (ft : Fits true turnedFits b)
      (greater : (a ≤ size) × (b ≤ size) × ((size ≡ a) ⊎ (size ≡ b)))
      (marks' : List ℕ) (h' : Held) (base-is : h'.base ≡ h.base + size)
      (moves : (j : ℕ) → h.low ≤ j → j ≤ h.end → get_or marks' j 0 ≡ moved chain h.base h.low h.end (opened false) (opened true) drawnFits turnedFits marks j)
      (low-in : h.low ≤ h'.low) (order : h'.low ≤ h'.end) (high-in : h'.end ≤ h.end + 1)
      (low-none : (j : ℕ) → h.low ≤ j → j < h'.low → get_or marks' j 0 ≡ 0)
      (high-none : (j : ℕ) → h'.end ≤ j → j < h.end + 1 → get_or marks' j 0 ≡ 0)
      (low_there : h'.low < h.end + 1 → get_or marks' h'.low 0 ≡ 0 → ⊥) where
    abbrev fits_of : Bool → List Bool
    fits_of e = cond e turnedFits drawnFits

    -- what is told of both directions
    told : (e : Bool) → (opened e ≡ 0 → ⊥) → (x : ℕ) → x < h.end - h.low + 1 → get_or (fits_of e) x false ≡ fit_at chain e l (from + x)
    told true = ft.told
    told false = fd.told

    size_is : (e : Bool) → (opened e ≡ 0 → ⊥) → (x : ℕ) → x < h.end - h.low + 1 → fit_at chain e l (from + x) ≡ true → size ≡ size_of l
    size_is e o x room f = go e o f greater.2
      where
        go : (e : Bool) → (opened e ≡ 0 → ⊥) → fit_at chain e l (from + x) ≡ true → (size ≡ a) ⊎ (size ≡ b) → size ≡ size_of l
        go true o f q = omega (arith, ft.sized o x room f, greater.1, either q)
          where
            either : (size ≡ a) ⊎ (size ≡ b) → size ≤ size_of l
            either (inl z) = omega (arith, fd.most)
            either (inr z) = omega (arith, ft.most)
        go false o f q = omega (arith, fd.sized o x room f, greater.0, either q)
          where
            either : (size ≡ a) ⊎ (size ≡ b) → size ≤ size_of l
            either (inl z) = omega (arith, fd.most)
            either (inr z) = omega (arith, ft.most)

    -- the mark j in a direction
    abbrev on_mark : Bool → ℕ → Bool
    on_mark e j = goes_on (get_or (fits_of e) (h.end - j) false) (opened e) (fresh_at chain (h.base - j)) (mark_here marks h.end j) (mark_before marks h.low j)

    mark_has : (e : Bool) (j : ℕ) → h.low ≤ j → j ≤ h.end → has e (get_or marks' j 0) ≡ on_mark e j
    unfolding moved
    mark_has e j b c = ap (has e) (moves j b c) ∙ has_set e (on_mark false j) (on_mark true j) ∙ which e
      where
        which : (e : Bool) → cond e (on_mark true j) (on_mark false j) ≡ on_mark e j
        which true = refl
        which false = refl

    -- a mark that is there is among those that are looked at
    there_in : (e : Bool) (j : ℕ) → h.low ≤ j → j ≤ h.end → has e (get_or marks' j 0) ≡ true → (h'.low ≤ j) × (j < h'.end)
    there_in e j b c q = (
      elim (dec_lt j h'.low) [ yes y ↦ absurd (has_there e (get_or marks' j 0) q (low-none j b y)) | no n ↦ omega arith ],
      elim (dec_lt j h'.end) [ yes y ↦ y | no n ↦ absurd (has_there e (get_or marks' j 0) q (high-none j (omega arith) (omega arith))) ],
    )

    place_of : (j : ℕ) → h.low ≤ j → j ≤ h.end → from + (h.end - j) ≡ h.base - j
    place_of j b c = omega (arith, steady.behind live)

    room_of : (j : ℕ) → h.low ≤ j → j ≤ h.end → h.end - j < h.end - h.low + 1
    room_of j b c = omega arith

    -- ---- from the places before to those after

    on : (d e : Bool) (k k' : ℕ) → Live marks h d k → LineLeads m chain p l d e k k' → Live marks' h' e k'
    on d e k k' v y = go y.begins
      where
        joint : has d (opened e) ≡ true
        joint = opened_joint d e ∙ y.joint

        ways : opened e ≡ 0 → ⊥
        ways = has_there d (opened e) joint

        fit_one : (j : ℕ) → h.low ≤ j → j ≤ h.end → h.base - j ≡ y.place → get_or (fits_of e) (h.end - j) false ≡ true
        fit_one j b c q =
            told e ways (h.end - j) (room_of j b c) ∙ ap (fit_at chain e l) (place_of j b c ∙ q) ∙ y.stands

        done : (j : ℕ) → h.low ≤ j → j ≤ h.end → h.base - j ≡ y.place → j ≤ h.base → on_mark e j ≡ true → Live marks' h' e k'
        done j b c q z s =
            let w : has e (get_or marks' j 0) ≡ true = mark_has e j b c ∙ s in
            let n = there_in e j b c w in
            let f : fit_at chain e l (from + (h.end - j)) ≡ true = ap (fit_at chain e l) (place_of j b c ∙ q) ∙ y.stands in
            record {
              mark = j;
              low = n.0;
              high = n.1;
              place = omega (arith, y.ends, base-is, size_is e ways (h.end - j) (room_of j b c) f);
              way = w;
            }

        go : (k ≡ suc y.place) ⊎ ((k ≡ y.place) × (fresh_at chain y.place ≡ true)) → Live marks' h' e k'
        go (inl q) =
            let j = suc v.mark in
            let r : h.base - j ≡ y.place = omega (arith, v.place) in
            let b : h.low ≤ j = omega (arith, v.low) in
            let c : j ≤ h.end = omega (arith, v.high) in
            done j b c r (omega (arith, v.place))
            (goes_before (get_or (fits_of e) (h.end - j) false) (opened e) (fresh_at chain (h.base - j)) (mark_here marks h.end j) (mark_before marks h.low j) (fit_one j b c r)
            (way_shared d (opened e) (mark_before marks h.low j) joint
            (ap (has d) (sym (before_yes marks h.low j (omega (arith, v.low))) ∙ ap (λ (n : ℕ). get_or marks n 0) (less v.mark)) ∙ v.way)))
          where
            less : (n : ℕ) → suc n - 1 ≡ n
            less n = omega arith
        go (inr q) =
            let j = v.mark in
            let r : h.base - j ≡ y.place = omega (arith, v.place, q.0) in
            let b : h.low ≤ j = v.low in
            let c : j ≤ h.end = omega (arith, v.high) in
            done j b c r (omega (arith, v.place))
            (goes_here (get_or (fits_of e) (h.end - j) false) (opened e) (fresh_at chain (h.base - j)) (mark_here marks h.end j) (mark_before marks h.low j) (fit_one j b c r)
            (ap (fresh_at chain) r ∙ q.1) (way_shared d (opened e) (mark_here marks h.end j) joint (ap (has d) (sym (here_yes marks h.end j v.high)) ∙ v.way)))

    -- ---- and back

    back : (e : Bool) (k' : ℕ) → Live marks' h' e k' → (d : Bool) × (k : ℕ) × Live marks h d k × LineLeads m chain p l d e k k'
    back e k' v = go (goes (get_or (fits_of e) (h.end - j) false) (opened e) (fresh_at chain (h.base - j)) (mark_here marks h.end j) (mark_before marks h.low j) there)
      where
        j : ℕ
        j = v.mark

        at_least : h.low ≤ v.mark
        at_least = omega (arith, v.low)

        at_most : v.mark ≤ h.end
        at_most = omega (arith, v.high)

        there : on_mark e v.mark ≡ true
        there = sym (mark_has e v.mark at_least at_most) ∙ v.way

        inside : h.end ≤ h.base
        inside = steady.behind live

        -- the line stands at the place of the mark
        stands : (opened e ≡ 0 → ⊥) → get_or (fits_of e) (h.end - v.mark) false ≡ true → fit_at chain e l (h.base - v.mark) ≡ true
        stands o f =
            ap (fit_at chain e l) (sym (place_of v.mark at_least at_most))
            ∙ sym (told e o (h.end - v.mark) (room_of v.mark at_least at_most)) ∙ f

        ends : (opened e ≡ 0 → ⊥) → fit_at chain e l (h.base - v.mark) ≡ true → k' ≡ h.base - v.mark + size_of l
        ends o f =
            omega (arith, v.place, base-is, inside, size_is e o (h.end - v.mark) (room_of v.mark at_least at_most) (ap (fit_at chain e l) (place_of v.mark at_least at_most) ∙ f))

        go : ((get_or (fits_of e) (h.end - v.mark) false ≡ true)
            × ((shared (opened e) (mark_before marks h.low v.mark) ≡ true) ⊎ ((fresh_at chain (h.base - v.mark) ≡ true) × (shared (opened e) (mark_here marks h.end v.mark) ≡ true))))
            → (d : Bool) × (k : ℕ) × Live marks h d k × LineLeads m chain p l d e k k'
        go s = which s.1
          where
            which : (shared (opened e) (mark_before marks h.low v.mark) ≡ true) ⊎ ((fresh_at chain (h.base - v.mark) ≡ true) × (shared (opened e) (mark_here marks h.end v.mark) ≡ true))
                → (d : Bool) × (k : ℕ) × Live marks h d k × LineLeads m chain p l d e k k'
            which (inl q) =
                let w = shared_way (opened e) (mark_before marks h.low v.mark) q in
                let o = has_there w.0 (opened e) w.1 in
                let f = stands o s.0 in
                elim (dec_lt h.low v.mark) [
                  | yes y ↦ (
                    w.0,
                    suc (h.base - v.mark),
                    record {
                      mark = v.mark - 1;
                      low = omega arith;
                      high = omega (arith, at_most);
                      place = omega (arith, inside, at_most);
                      way = ap (has w.0) (before_yes marks h.low v.mark y) ∙ w.2;
                    },
                    record { place = h.base - v.mark; joint = sym (opened_joint w.0 e) ∙ w.1; stands = f; begins = inl refl; ends = ends o f },
                  )
                  | no n ↦ absurd (has_there w.0 (mark_before marks h.low v.mark) w.2 (sym (before_no marks h.low v.mark (omega arith))))
                ]
            which (inr q) =
                let w = shared_way (opened e) (mark_here marks h.end v.mark) q.1 in
                let o = has_there w.0 (opened e) w.1 in
                let f = stands o s.0 in
                elim (dec_lt v.mark h.end) [
                  | yes y ↦ (
                    w.0,
                    h.base - v.mark,
                    record {
                      mark = v.mark;
                      low = at_least;
                      high = y;
                      place = omega (arith, inside, at_most);
                      way = ap (has w.0) (here_yes marks h.end v.mark y) ∙ w.2;
                    },
                    record { place = h.base - v.mark; joint = sym (opened_joint w.0 e) ∙ w.1; stands = f; begins = inr (refl, q.0); ends = ends o f },
                  )
                  | no n ↦ absurd (has_there w.0 (mark_here marks h.end v.mark) w.2 (sym (here_no marks h.end v.mark (omega arith))))
                ]

    -- ---- what is known behind the line

    small' : (j : ℕ) → h'.low ≤ j → j < h'.end → get_or marks' j 0 ≤ 3
    unfolding moved
    small' j b c = subst (λ (n : ℕ). n ≤ 3) (sym (moves j (omega arith) (omega arith))) (set_small (on_mark false j) (on_mark true j))

    -- where a mark is there, the line's size was told
    size_there : h'.low < h'.end → size ≡ size_of l
    unfolding moved
    size_there b =
        let j = h'.low in
        let c : j ≤ h.end = omega arith in
        let n = set_none (on_mark false j) (on_mark true j) (λ z. low_there (omega arith) (moves j low-in c ∙ z)) in
        told_by n.0 (sym (which n.0) ∙ n.1)
      where
        which : (e : Bool) → cond e (on_mark true h'.low) (on_mark false h'.low) ≡ on_mark e h'.low
        which true = refl
        which false = refl

        told_by : (e : Bool) → on_mark e h'.low ≡ true → size ≡ size_of l
        told_by e q =
            let j = h'.low in
            let c : j ≤ h.end = omega arith in
            let g = goes (get_or (fits_of e) (h.end - j) false) (opened e) (fresh_at chain (h.base - j)) (mark_here marks h.end j) (mark_before marks h.low j) q in
            let o = ways e g.1 in
            size_is e o (h.end - j) (room_of j low-in c)
            (sym (told e o (h.end - j) (room_of j low-in c)) ∙ g.0)
          where
            ways : (e : Bool) → (shared (opened e) (mark_before marks h.low h'.low) ≡ true) ⊎ ((fresh_at chain (h.base - h'.low) ≡ true) × (shared (opened e) (mark_here marks h.end h'.low) ≡ true))
                → opened e ≡ 0 → ⊥
            ways e (inl x) = let w = shared_way (opened e) (mark_before marks h.low h'.low) x in has_there w.0 (opened e) w.1
            ways e (inr x) = let w = shared_way (opened e) (mark_here marks h.end h'.low) x.1 in has_there w.0 (opened e) w.1

    size_most : size ≤ size_of l
    size_most = go greater.2
      where
        go : (size ≡ a) ⊎ (size ≡ b) → size ≤ size_of l
        go (inl z) = omega (arith, fd.most)
        go (inr z) = omega (arith, ft.most)

    pub steps : 0 < size_of l → size_of l ≤ most_points → Steps m chain p l i marks h marks' h'
    steps filled short =
        record {
          steady =
              record {
                order = order;
                few = omega (arith, steady.few);
                near = sums i h.base h'.base size steady.near base-is (omega (arith, size_most));
                behind = λ q. omega (arith, base-is, size_there q, steady.behind live);
                small = small';
              };
          on = on;
          back = back;
        }
      where
        sums : (i b b' s : ℕ) → b ≤ i * most_points → b' ≡ b + s → s ≤ most_points → b' ≤ (i + 1) * most_points
        sums i b b' s p q r = omega arith
