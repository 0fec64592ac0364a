-- A way is a choice: the two theorems of Ways, from the last line to the first.
use Prim.Native.Nat.{ℕ, zero, suc, ◌+◌, ◌≤◌, ◌<◌}
use mathlib.Core.Path.{◌≡◌, refl, sym, ap, ap₂, ◌∙◌, subst}
use mathlib.Core.Bool.{Bool, true, false, not, ◌&&◌, and-eq-true_iff}
use mathlib.Core.Logic.{◌⊎◌, inl, inr}
use mathlib.Core.List.{List, [], ◌∷◌, ◌++◌}
use mathlib.Core.Option.{Option, some}
use native.Mathlib.Omega.{arith}
use lib.ListN.{length, drop, get_or, length-map, drop_of_length-le}
use lib.Seq.{drop-cons}
use borrow.Author.Tests.{lt-ltb}
use Rattle.rules.specs.declared.Meeting.{Meeting}
use Rattle.rules.specs.Plane.{Point, point, equal}
use Rattle.chain_laws.proofs.Counts.{Each, cons, each_get_d}
use Rattle.chain_travel.proofs.Laying.{laid, last_from}
use Rattle.chain_travel.proofs.Values.{Number, value, same, one, self, equal_value}
use Rattle.check_laws.specs.Standing.{laid_run, size_of, fit_at, fresh_at, joint_at, LineLeads, Way}
use Rattle.check_laws.proofs.Points.{equal_number, values, laid_numbers}
use Rattle.check_laws.proofs.Ways.{Value, origin, laid_behind, laid_repeat, alone, Sized, Read, read, stands_fit, course, linked, Going, laid_line, fit_inside, fit_first, end, end_is, fit_behind, fit_last, fit_repeat, fit_fresh}

-- ---- the point at a place

value_of : (l : List Point) (i : ℕ) → i < length l → get_or (values l) i origin ≡ value (get_or l i (point 0 0))
value_of [] i h = absurd (omega arith)
value_of (p ∷ l) zero h = refl
value_of (p ∷ l) (suc i) h = value_of l i (omega arith)

module _ (chain : List Point) (l : List Point) (e : Bool) (s : Sized l) (i : ℕ) where
  -- the line's first laid point
  abbrev head : Point
  head = get_or (laid_run e l) 0 (point 0 0)

  laid_length : length (laid_run e l) ≡ suc (length (laid same (some (read e l s).first) (read e l s).others))
  laid_length = sym (length-map (laid_run e l) value) ∙ ap length (read e l s).laid_is

  head_value : value head ≡ (read e l s).first
  head_value = sym (value_of (laid_run e l) 0 (omega (arith, laid_length))) ∙ ap (λ (v : List Value). get_or v 0 origin) (read e l s).laid_is

  head_number : Number head
  head_number = each_get_d Number (laid_run e l) 0 (point 0 0) (laid_numbers e l s.numbers) (omega (arith, laid_length))

  -- the chain's point where it stands is no NaN
  met_number : i < length chain → get_or (values chain) i origin ≡ (read e l s).first → Number (get_or chain i (point 0 0))
  met_number h q =
      let p = get_or chain i (point 0 0) in
      let w : value p ≡ value head = sym (value_of chain i h) ∙ q ∙ sym head_value in
      equal_number p head (equal_value p head head_number ∙ subst (λ (z : Value). same (value p) z ≡ true) w (self (value p)))

-- and so a repeat there is a repeat of values
fresh_is : (chain : List Point) (l : List Point) (e : Bool) (s : Sized l) (k : ℕ) → suc k < length chain → get_or (values chain) (suc k) origin ≡ (read e l s).first
    → fresh_at chain (suc k) ≡ not (same (get_or (values chain) k origin) (read e l s).first)
unfolding fresh_at
fresh_is chain l e s k h q =
    let w : equal (get_or chain k (point 0 0)) (get_or chain (suc k) (point 0 0)) ≡ same (get_or (values chain) k origin) (read e l s).first =
    equal_value (get_or chain k (point 0 0)) (get_or chain (suc k) (point 0 0)) (met_number chain l e s (suc k) h q)
    ∙ ap₂ same (sym (value_of chain k (omega arith))) (sym (value_of chain (suc k) h) ∙ q) in
    ap₂ (λ (x y : Bool). x && not y) (lt-ltb (suc k) (length chain) h) w

not_true : (b : Bool) → not b ≡ true → b ≡ false
not_true true e = sym e
not_true false e = refl

-- ---- the theorems

module _ (m : Meeting) (chain : List Point) where
  abbrev t : List Value
  t = values chain

  -- one line, and a choice behind it
  going_step : (p l : List Point) (d e : Bool) (k k' : ℕ) (ls : List (List Point)) (s : Sized l) → suc k ≤ length chain
      → (y : LineLeads m chain p l d e (suc k) k') → Going m chain l e (end m chain l e s y.place y.stands) ls → Going m chain p d k (l ∷ ls)
  unfolding linked
  going_step p l d e k k' ls s b y g =
      record {
        ways = e ∷ g.ways;
        each = ap suc g.each;
        meeting = (and-eq-true_iff (joint_at m p d l e) (linked m l e ls g.ways)).1 (y.joint, g.meeting);
        lays = go y.begins;
      }
    where
      go : (suc k ≡ suc y.place) ⊎ ((suc k ≡ y.place) × (fresh_at chain y.place ≡ true))
          → laid same (some (get_or t k origin)) (values (course (l ∷ ls) (e ∷ g.ways))) ≡ drop (suc k) t
      go (inl z) =
          let q : y.place ≡ k = omega arith in
          fit_repeat m chain l e s y.place y.stands (get_or t k origin) ls g.ways
          (ap (λ (n : ℕ). get_or t n origin) (sym q) ∙ fit_first m chain l e s y.place y.stands) g.lays
          ∙ ap (λ (n : ℕ). drop (suc n) t) q
      go (inr z) =
          let q : y.place ≡ suc k = omega arith in
          let f : get_or t (suc k) origin ≡ (read e l s).first = ap (λ (n : ℕ). get_or t n origin) (sym q) ∙ fit_first m chain l e s y.place y.stands in
          let n : suc k < length chain = omega (arith, fit_inside m chain l e s y.place y.stands, (read e l s).size_is) in
          fit_fresh m chain l e s y.place y.stands (get_or t k origin) ls g.ways
          (not_true (same (get_or t k origin) (read e l s).first) (sym (fresh_is chain l e s k n f) ∙ ap (fresh_at chain) (sym q) ∙ z.1)) g.lays
          ∙ ap (λ (n : ℕ). drop n t) q

  pub way_going : (p : List Point) (d : Bool) (k : ℕ) (ls : List (List Point)) → Each Sized ls → suc k ≤ length chain → Way m chain p d (suc k) ls → Going m chain p d k ls
  unfolding Way linked course laid
  way_going p d k [] s b w =
      let h : length t ≤ suc k = omega (arith, length-map chain value) in
      record { ways = []; each = refl; meeting = refl; lays = sym (drop_of_length-le t h) }
  way_going p d k (l ∷ ls) (cons s ss) b w =
      let y = w.2 in
      let q : w.1 ≡ suc (end m chain l w.0 s y.place y.stands) = y.ends ∙ end_is m chain l w.0 s y.place y.stands in
      going_step p l d w.0 k w.1 ls s b y
      (way_going l w.0 (end m chain l w.0 s y.place y.stands) ls ss
      (omega (arith, fit_inside m chain l w.0 s y.place y.stands, end_is m chain l w.0 s y.place y.stands))
      (subst (λ (n : ℕ). Way m chain l w.0 n ls) q w.3))

  -- where the next line of a choice stands
  module _ (p l : List Point) (d e : Bool) (k : ℕ) (ls : List (List Point)) (ds : List Bool) (s : Sized l) (b : suc k ≤ length chain)
      (lays : laid same (some (get_or t k origin)) (values (course (l ∷ ls) (e ∷ ds))) ≡ drop (suc k) t) where
    abbrev it : Read e l
    it = read e l s

    abbrev after : List Value
    after = laid same (last_from (some (get_or t k origin)) (it.first ∷ it.others)) (values (course ls ds))

    record Next : Type 0 where
      place : ℕ
      stands : fit_at chain e l place ≡ true
      begins : (suc k ≡ suc place) ⊎ ((suc k ≡ place) × (fresh_at chain place ≡ true))
      beyond_is : drop place t ≡ values (laid_run e l) ++ after

    at_next : (i : ℕ) → drop i t ≡ values (laid_run e l) ++ after → fit_at chain e l i ≡ true
    at_next i h = stands_fit chain e l i after s.numbers h

    next_line : Next
    next_line = go (same (get_or t k origin) it.first) refl
      where
        whole : laid same (some (get_or t k origin)) (it.first ∷ it.others) ++ after ≡ drop (suc k) t
        whole = sym (laid_line m chain (get_or t k origin) l ls e ds it) ∙ lays

        go : (x : Bool) → same (get_or t k origin) it.first ≡ x → Next
        go true q =
            let f : get_or t k origin ≡ it.first = one (get_or t k origin) it.first q in
            let h : drop k t ≡ values (laid_run e l) ++ after =
            drop-cons t k origin (omega (arith, length-map chain value))
            ∙ ap₂ {C = List Value} (λ (x : Value) (y : List Value). x ∷ y) f
            (sym whole ∙ ap (λ (y : List Value). y ++ after) (ap (λ (x : Value). laid same (some x) (it.first ∷ it.others)) f ∙ laid_repeat it.first it.others))
            ∙ ap (λ (y : List Value). y ++ after) (sym it.laid_is) in
            record { place = k; stands = at_next k h; begins = inl refl; beyond_is = h }
        go false q =
            let h : drop (suc k) t ≡ values (laid_run e l) ++ after =
            sym whole ∙ ap (λ (y : List Value). y ++ after) (laid_behind (get_or t k origin) it.first it.others q ∙ alone it.first it.others ∙ sym it.laid_is) in
            let w = at_next (suc k) h in
            let n : suc k < length chain = omega (arith, fit_inside m chain l e s (suc k) w, it.size_is) in
            record {
              place = suc k;
              stands = w;
              begins = inr (refl, fresh_is chain l e s k n (fit_first m chain l e s (suc k) w) ∙ ap not q);
              beyond_is = h;
            }

    -- the lines behind it lay what is left
    next_lays : (n : Next) → laid same (some (get_or t (end m chain l e s n.place n.stands) origin)) (values (course ls ds))
        ≡ drop (suc (end m chain l e s n.place n.stands)) t
    next_lays n =
        ap (λ (o : Option Value). laid same o (values (course ls ds))) (sym (fit_last m chain l e s n.place n.stands (get_or t k origin)))
        ∙ sym
        (fit_behind m chain l e s n.place n.stands
        ∙ ap (drop (length (values (laid_run e l)))) n.beyond_is ∙ lib.Seq.drop-append_seam (values (laid_run e l)) after)

  pub going_way : (p : List Point) (d : Bool) (k : ℕ) (ls : List (List Point)) → Each Sized ls → suc k ≤ length chain → Going m chain p d k ls → Way m chain p d (suc k) ls
  unfolding Way linked course laid
  going_way p d k [] s b g = ended g.ways g.lays
    where
      ended : (ds : List Bool) → laid same (some (get_or t k origin)) (values (course [] ds)) ≡ drop (suc k) t → suc k ≡ length chain
      ended ds h = omega (arith, ap length h, lib.ListN.length-drop (suc k) t, length-map chain value)
  going_way p d k (l ∷ ls) (cons s ss) b g = go g.ways g.each g.meeting g.lays (λ e i. going_way l e i ls ss)
    where
      go : (ds : List Bool) → length ds ≡ suc (length ls) → linked m p d (l ∷ ls) ds ≡ true
          → laid same (some (get_or t k origin)) (values (course (l ∷ ls) ds)) ≡ drop (suc k) t
          → ((e : Bool) (i : ℕ) → suc i ≤ length chain → Going m chain l e i ls → Way m chain l e (suc i) ls)
          → (e : Bool) × (k' : ℕ) × LineLeads m chain p l d e (suc k) k' × Way m chain l e k' ls
      go [] n j h f = absurd (omega arith)
      go (e ∷ ds) n j h f =
          let a = (and-eq-true_iff (joint_at m p d l e) (linked m l e ls ds)).0 j in
          let x = next_line p l d e k ls ds s b h in
          let i = end m chain l e s x.place x.stands in
          let q : x.place + size_of l ≡ suc i = end_is m chain l e s x.place x.stands in (
            e,
            suc i,
            record { place = x.place; joint = a.0; stands = x.stands; begins = x.begins; ends = sym q },
            f e i (omega (arith, q, fit_inside m chain l e s x.place x.stands))
                (record { ways = ds; each = omega arith; meeting = a.1; lays = next_lays p l d e k ls ds s b h x }),
          )
