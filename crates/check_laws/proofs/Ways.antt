-- A way from place to place is a choice of directions that lays the rest of the chain. A line stands whole where it is laid, but for its first point where
-- that repeats the last one laid: there it stands one place before. So behind what is laid already, the lines of a choice lay the rest of the chain exactly
-- if each leads from place to place, the last one to the end.
use Prim.Native.Nat.{ℕ, suc, ◌+◌, ◌≤◌, ◌<◌}
use mathlib.Core.Path.{◌≡◌, refl, sym, ap, ap₂, ◌∙◌}
use mathlib.Core.Bool.{Bool, true, false, ◌&&◌}
use mathlib.Core.List.{List, [], ◌∷◌, ◌++◌, map-append}
use mathlib.Core.Option.{Option, none, some}
use native.Mathlib.Omega.{arith}
use lib.ListN.{length, drop, get_or, length-map, length-append, length-drop, get_or-append, length-reverse}
use lib.Seq.{get_or-drop, drop-drop, drop_at}
use borrow.Author.Tests.{eqb-true, eq-eqb}
use Rattle.rules.specs.declared.Meeting.{Meeting}
use Rattle.rules.specs.Plane.{Point}
use Rattle.chain_laws.proofs.Counts.{Each}
use Rattle.chain_travel.proofs.Laying.{meets, laid, last_from, laid_drop, laid_keep, laid_first, laid_append, last_of_laid}
use Rattle.chain_travel.proofs.Values.{Number, value, same, one, self}
use Rattle.check_laws.specs.Standing.{common, run, laid_run, size_of, standing, fit_at, joint_at}
use Rattle.check_laws.proofs.Common.{common_all, common_begin}
use Rattle.check_laws.proofs.Points.{values, laid_values_lem, laid_size, standing_values}

abbrev pub Value : Type 0
Value = ℕ × ℕ

abbrev pub origin : Value
origin = (0, 0)

-- ---- lists of values

last_of_lem : (o : Option Value) (f : Value) (v : List Value) → last_from o (f ∷ v) ≡ some (get_or (f ∷ v) (length v) origin)
unfolding last_from
last_of_lem o f [] = refl
last_of_lem o f (g ∷ v) = last_of_lem (some f) g v

-- what is laid alone begins with the first point, and the rest is laid behind that
pub alone : (f : Value) (r : List Value) → laid same none (f ∷ r) ≡ f ∷ laid same (some f) r
alone f r = laid_first same f r

-- behind another point all of it is laid, and behind its first point all but that
pub laid_behind : (q f : Value) (r : List Value) → same q f ≡ false → laid same (some q) (f ∷ r) ≡ laid same none (f ∷ r)
unfolding meets
laid_behind q f r e = laid_keep same (some q) f r e ∙ sym (alone f r)

pub laid_repeat : (f : Value) (r : List Value) → laid same (some f) (f ∷ r) ≡ laid same (some f) r
unfolding meets
laid_repeat f r = laid_drop same (some f) f r (self f)

-- a run that stands at a place i of t, its first point f and n more
module _ (t v x : List Value) (f : Value) (i : ℕ) (stands : drop i t ≡ (f ∷ v) ++ x) where
  value_at : (j : ℕ) → j < suc (length v) → get_or t (i + j) origin ≡ get_or (f ∷ v) j origin
  value_at j h = sym (get_or-drop i t j origin) ∙ ap (λ (l : List Value). get_or l j origin) stands ∙ get_or-append (f ∷ v) x origin j h

  first_at : get_or t i origin ≡ f
  first_at = let e : i + 0 ≡ i = omega arith in ap (λ (j : ℕ). get_or t j origin) (sym e) ∙ value_at 0 (omega arith)

  behind : drop (i + suc (length v)) t ≡ x
  behind = sym (drop-drop (suc (length v)) i t) ∙ ap (drop (suc (length v))) stands ∙ drop_at (f ∷ v) x (suc (length v)) refl

  behind_first : drop (suc i) t ≡ v ++ x
  behind_first = let e : i + 1 ≡ suc i = omega arith in ap (λ (j : ℕ). drop j t) (sym e) ∙ sym (drop-drop 1 i t) ∙ ap (drop 1) stands

  inside : i + suc (length v) ≤ length t
  inside = omega (arith, length-drop i t, ap length stands, length-append (f ∷ v) x)

-- ---- a line's values

-- a line has a point, and its points are places
pub record Sized (l : List Point) : Type 0 where
  pub numbers : Each Number l
  pub filled : 0 < length l

-- its values in a direction: the first, the others, and those laid behind it
pub record Read (e : Bool) (l : List Point) : Type 0 where
  pub first : Value
  pub others : List Value
  pub is : values (run e l) ≡ first ∷ others
  pub laid_is : values (laid_run e l) ≡ first ∷ laid same (some first) others
  pub size_is : size_of l ≡ suc (length (laid same (some first) others))

pub run_length : (e : Bool) (l : List Point) → length (run e l) ≡ length l
unfolding run
run_length true l = length-reverse l
run_length false l = refl

pub read : (e : Bool) (l : List Point) → Sized l → Read e l
read e l s = go (values (run e l)) refl (omega (arith, length-map (run e l) value, run_length e l, s.filled))
  where
    go : (v : List Value) → values (run e l) ≡ v → 0 < length (values (run e l)) → Read e l
    go [] q h = absurd (omega (arith, ap length q))
    go (f ∷ r) q h =
        let w : values (laid_run e l) ≡ f ∷ laid same (some f) r = laid_values_lem e l s.numbers ∙ ap (laid same none) q ∙ alone f r in
        record {
          first = f;
          others = r;
          is = q;
          laid_is = w;
          size_is = sym (laid_size e l s.numbers) ∙ sym (length-map (laid_run e l) value) ∙ ap length w;
        }

-- it stands at a place exactly where its values do
fit_stands : (chain : List Point) (e : Bool) (l : List Point) (i : ℕ) → Each Number l → fit_at chain e l i ≡ true
    → drop i (values chain) ≡ values (laid_run e l) ++ drop (length (values (laid_run e l))) (drop i (values chain))
unfolding fit_at
fit_stands chain e l i n h =
    common_all same one self (drop i (values chain)) (values (laid_run e l))
    (sym (standing_values chain e l i n) ∙ eqb-true (standing chain e l i) (length (laid_run e l)) h ∙ sym (length-map (laid_run e l) value))

pub stands_fit : (chain : List Point) (e : Bool) (l : List Point) (i : ℕ) (x : List Value) → Each Number l
    → drop i (values chain) ≡ values (laid_run e l) ++ x → fit_at chain e l i ≡ true
unfolding fit_at
stands_fit chain e l i x n h =
    eq-eqb (standing chain e l i) (length (laid_run e l))
    (standing_values chain e l i n ∙ ap (λ (y : List Value). common same y (values (laid_run e l))) h
    ∙ common_begin same one self (values (laid_run e l)) x ∙ length-map (laid_run e l) value)

-- ---- a choice for the lines that are left

unfoldable pub course : List (List Point) → List Bool → List Point
course [] ds = []
course (l ∷ ls) [] = []
course (l ∷ ls) (d ∷ ds) = run d l ++ course ls ds

unfoldable pub linked : Meeting → List Point → Bool → List (List Point) → List Bool → Bool
linked m p d [] ds = true
linked m p d (l ∷ ls) [] = false
linked m p d (l ∷ ls) (e ∷ ds) = joint_at m p d l e && linked m l e ls ds

module _ (m : Meeting) (chain : List Point) where
  -- behind the line p in the direction d, with k points passed and one more, the lines lay the rest of the chain
  pub record Going (p : List Point) (d : Bool) (k : ℕ) (ls : List (List Point)) : Type 0 where
    pub ways : List Bool
    pub each : length ways ≡ length ls
    pub meeting : linked m p d ls ways ≡ true
    pub lays : laid same (some (get_or (values chain) k origin)) (values (course ls ways)) ≡ drop (suc k) (values chain)

  abbrev t : List Value
  t = values chain

  pub course_values : (l : List Point) (ls : List (List Point)) (e : Bool) (ds : List Bool) → values (course (l ∷ ls) (e ∷ ds)) ≡ values (run e l) ++ values (course ls ds)
  unfolding course
  course_values l ls e ds = map-append value (run e l) (course ls ds)

  -- what a line and the lines behind it lay, behind a point
  pub laid_line : (q : Value) (l : List Point) (ls : List (List Point)) (e : Bool) (ds : List Bool) (r : Read e l)
      → laid same (some q) (values (course (l ∷ ls) (e ∷ ds)))
      ≡ laid same (some q) (r.first ∷ r.others) ++ laid same (last_from (some q) (r.first ∷ r.others)) (values (course ls ds))
  laid_line q l ls e ds r =
      ap (laid same (some q)) (course_values l ls e ds ∙ ap (λ (y : List Value). y ++ values (course ls ds)) r.is)
      ∙ laid_append same one self (some q) (r.first ∷ r.others) (values (course ls ds))

  -- the last of its points, however it is laid
  last_laid : (q : Value) (f : Value) (r : List Value) → last_from (some q) (f ∷ r) ≡ some (get_or (f ∷ laid same (some f) r) (length (laid same (some f) r)) origin)
  unfolding last_from
  last_laid q f r = sym (last_of_laid same one self (some f) r) ∙ last_of_lem (some q) f (laid same (some f) r)

  -- ---- a line that stands at a place

  module _ (l : List Point) (e : Bool) (s : Sized l) (i : ℕ) (h : fit_at chain e l i ≡ true) where
    abbrev pub this : Read e l
    this = read e l s

    abbrev pub rest : List Value
    rest = laid same (some this.first) this.others

    abbrev pub beyond : List Value
    beyond = drop (length (values (laid_run e l))) (drop i t)

    pub here : drop i t ≡ (this.first ∷ rest) ++ beyond
    here = fit_stands chain e l i s.numbers h ∙ ap (λ (y : List Value). y ++ beyond) this.laid_is

    pub fit_inside : i + size_of l ≤ length chain
    fit_inside = omega (arith, inside t rest beyond this.first i here, this.size_is, length-map chain value)

    pub fit_first : get_or t i origin ≡ this.first
    fit_first = first_at t rest beyond this.first i here

    -- the place behind it has a place before
    abbrev pub end : ℕ
    end = i + length rest

    pub end_is : i + size_of l ≡ suc end
    end_is = omega (arith, this.size_is)

    pub fit_behind : drop (suc end) t ≡ beyond
    fit_behind = let q : i + suc (length rest) ≡ suc end = omega arith in ap (λ (j : ℕ). drop j t) (sym q) ∙ behind t rest beyond this.first i here

    pub fit_last : (q : Value) → last_from (some q) (this.first ∷ this.others) ≡ some (get_or t end origin)
    fit_last q = last_laid q this.first this.others ∙ ap (λ (x : Value). some x) (sym (value_at t rest beyond this.first i here (length rest) (omega arith)))

    -- behind its first point, or behind another
    pub fit_repeat : (q : Value) (ls : List (List Point)) (ds : List Bool) → q ≡ this.first
        → laid same (some (get_or t end origin)) (values (course ls ds)) ≡ drop (suc end) t
        → laid same (some q) (values (course (l ∷ ls) (e ∷ ds))) ≡ drop (suc i) t
    fit_repeat q ls ds z g =
        laid_line q l ls e ds this
        ∙ ap₂ (λ (y w : List Value). y ++ w)
        (ap (λ (x : Value). laid same (some x) (this.first ∷ this.others)) z ∙ laid_repeat this.first this.others)
        (ap (λ (o : Option Value). laid same o (values (course ls ds))) (fit_last q) ∙ g ∙ fit_behind)
        ∙ sym (behind_first t rest beyond this.first i here)

    pub fit_fresh : (q : Value) (ls : List (List Point)) (ds : List Bool) → same q this.first ≡ false
        → laid same (some (get_or t end origin)) (values (course ls ds)) ≡ drop (suc end) t
        → laid same (some q) (values (course (l ∷ ls) (e ∷ ds))) ≡ drop i t
    fit_fresh q ls ds z g =
        laid_line q l ls e ds this
        ∙ ap₂ (λ (y w : List Value). y ++ w) (laid_behind q this.first this.others z ∙ alone this.first this.others)
        (ap (λ (o : Option Value). laid same o (values (course ls ds))) (fit_last q) ∙ g ∙ fit_behind)
        ∙ sym here
