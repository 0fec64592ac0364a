-- From the first line to the last: the lines that are left lead from a possible place to the end of the chain exactly if all of them lead from its beginning
-- there. Behind the last line the end of the chain is a possible place, or it isn't.
use Prim.Native.Nat.{ℕ, ◌-◌, ◌≤◌, ◌<◌}
use mathlib.Core.Path.{◌≡◌, refl, ap, ◌∙◌, subst}
use mathlib.Core.Bool.{Bool, true, not, ◌&&◌, and-eq-true_iff}
use mathlib.Core.List.{List, [], ◌∷◌}
use native.Mathlib.Omega.{arith}
use lib.Dec.{leb, ltb, eqb}
use lib.ListN.{length, get_or}
use borrow.Author.Tests.{le-leb, leb-true, lt-ltb, ltb-true, ne_eqb, eqb-false, not-true}
use Rattle.rules.specs.declared.Meeting.{Meeting}
use Rattle.rules.specs.Plane.{Point}
use Rattle.check_laws.specs.Standing.{size_of, Way, Begun}
use Rattle.check_marks.proofs.Sets.{has_there, some_way}
use Rattle.check_chains.specs.declared.Held.{Held}
use Rattle.check_chains.specs.Chains.{Live, Steady, FirstLineLies, Steps, ended_at}

module _ (m : Meeting) (chain : List Point) (Goal : Type 0) where
  pub record Passing (marks : List ℕ) (h : Held) (p : List Point) (rest : List (List Point)) : Type 0 where
    pub to : Goal → (d : Bool) × (k : ℕ) × Live marks h d k × Way m chain p d k rest
    pub back : (d : Bool) (k : ℕ) → Live marks h d k → Way m chain p d k rest → Goal

  pub passing_step : (marks marks' : List ℕ) (h h' : Held) (i : ℕ) (p l : List Point) (rest : List (List Point))
      → Steps m chain p l i marks h marks' h' → Passing marks h p (l ∷ rest) → Passing marks' h' l rest
  unfolding Way
  passing_step marks marks' h h' i p l rest s g =
      record {
        to = λ x. let y = g.to x in let w = y.3 in (w.0, w.1, s.on y.0 w.0 y.1 w.1 y.2 w.2, w.3);
        back = λ e k' v w. let y = s.back e k' v in g.back y.0 y.1 y.2 (e, k', y.3, w);
      }

  -- no place is possible
  pub passing_dead : (marks : List ℕ) (h : Held) (p : List Point) (rest : List (List Point)) → Passing marks h p rest → h.low ≡ h.end → Goal → ⊥
  passing_dead marks h p rest g e x = let v = (g.to x).2 in omega (arith, v.low, v.high)

  -- ---- behind the last line

  pub ended_live : (marks : List ℕ) (h : Held) (i have : ℕ) → Steady marks h i → ended_at marks h have ≡ true → (d : Bool) × Live marks h d have
  unfolding ended_at
  ended_live marks h i have s e =
      let j = h.base - have in
      let a = (and-eq-true_iff (leb have h.base) (leb h.low j && (ltb j h.end && not (eqb (get_or marks j 0) 0)))).0 e in
      let b = (and-eq-true_iff (leb h.low j) (ltb j h.end && not (eqb (get_or marks j 0) 0))).0 a.1 in
      let c = (and-eq-true_iff (ltb j h.end) (not (eqb (get_or marks j 0) 0))).0 b.1 in
      let low : h.low ≤ j = leb-true h.low j b.0 in
      let high : j < h.end = ltb-true j h.end c.0 in
      let w = some_way (get_or marks j 0) (s.small j low high) (eqb-false (get_or marks j 0) 0 (not-true (eqb (get_or marks j 0) 0) c.1)) in
      (w.0, record { mark = j; low = low; high = high; place = omega (arith, leb-true have h.base a.0); way = w.1 })

  pub live_ended : (marks : List ℕ) (h : Held) (d : Bool) (have : ℕ) → Live marks h d have → ended_at marks h have ≡ true
  unfolding ended_at
  live_ended marks h d have v =
      let q : h.base - have ≡ v.mark = omega (arith, v.place) in
      ap (λ (j : ℕ). leb have h.base && (leb h.low j && (ltb j h.end && not (eqb (get_or marks j 0) 0)))) q
      ∙ (and-eq-true_iff (leb have h.base) (leb h.low v.mark && (ltb v.mark h.end && not (eqb (get_or marks v.mark 0) 0)))).1 (
        le-leb have h.base (omega (arith, v.place)),
        (and-eq-true_iff (leb h.low v.mark) (ltb v.mark h.end && not (eqb (get_or marks v.mark 0) 0))).1 (
          le-leb h.low v.mark v.low,
          (and-eq-true_iff (ltb v.mark h.end) (not (eqb (get_or marks v.mark 0) 0))).1
              (lt-ltb v.mark h.end v.high, ap not (ne_eqb (get_or marks v.mark 0) 0 (has_there d (get_or marks v.mark 0) v.way))),
        ),
      )

  pub passing_end : (marks : List ℕ) (h : Held) (i : ℕ) (p : List Point) → Steady marks h i → Passing marks h p []
      → (ended_at marks h (length chain) ≡ true → Goal) × (Goal → ended_at marks h (length chain) ≡ true)
  unfolding Way
  passing_end marks h i p s g = (
    λ e. let v = ended_live marks h i (length chain) s e in g.back v.0 (length chain) v.1 refl,
    λ x. let y = g.to x in live_ended marks h y.0 (length chain) (subst (Live marks h y.0) y.3 y.2),
  )

-- ---- behind the first line

pub passing_start : (m : Meeting) (chain l : List Point) (rest : List (List Point)) (marks : List ℕ) (h : Held) → FirstLineLies chain l marks h
    → Passing m chain (Begun m chain l rest) marks h l rest
passing_start m chain l rest marks h b =
    record {
      to = λ x. (x.turned, size_of l, b.on x.turned x.stands, x.leads);
      back = λ d k v w.
          let y = b.back d k v in
          record { turned = d; stands = y.1; leads = subst (λ (n : ℕ). Way m chain l d n rest) y.0 w };
    }
