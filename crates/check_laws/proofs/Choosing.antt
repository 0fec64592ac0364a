-- A choice of directions exists exactly if the first line stands at the beginning of the chain in one of its directions, and a way leads on from there. The
-- book's choices are all lists of directions, so that one of them suits exactly if a list of directions does.
use Prim.Native.Nat.{ℕ, zero, suc, ◌+◌}
use mathlib.Core.Path.{◌≡◌, refl, sym, ap, ap₂, ◌∙◌, subst}
use mathlib.Core.Bool.{Bool, true, false, ◌&&◌, ◌||◌, and-eq-true_iff}
use mathlib.Core.List.{List, [], ◌∷◌, ◌++◌, map, flat_map}
use mathlib.Core.Option.{Option, none, some}
use native.Mathlib.Omega.{arith}
use lib.ListN.{length, drop, get_or, length-map}
use lib.Seq.{drop-append_seam}
use Rattle.rules.specs.declared.Meeting.{Meeting}
use Rattle.rules.specs.Lists.{any_of}
use Rattle.rules.specs.Plane.{Point}
use Rattle.rules.specs.Chaining.{Line, lay}
use Rattle.rules.specs.Check.{meet, travelled, entered, departed, meetings, end_to_end, agree, suits, choices, a_choice}
use Rattle.chain_laws.proofs.Counts.{Each, nil, cons, each_append}
use Rattle.chain_extras.proofs.Riding.{each_lay}
use Rattle.chain_travel.proofs.Laying.{laid, last_from, laid_append}
use Rattle.chain_travel.proofs.Values.{Number, same, one, self, lay_values}
use Rattle.check_laws.specs.Standing.{run, laid_run, size_of, fit_at, joint_at, Way, Begun}
use Rattle.check_laws.proofs.Points.{values, run_numbers, agree_same, same_agree}
use Rattle.check_laws.proofs.Ways.{Value, origin, alone, Sized, Read, read, stands_fit, course, linked, Going, course_values, here, fit_inside, end, end_is, fit_behind, fit_last}
use Rattle.check_laws.proofs.Going.{way_going, going_way}

-- ---- all choices

any_yes : {A : Type 0} (t : A → Bool) (a : A) (l : List A) → t a ≡ true → any_of t (a ∷ l) ≡ true
unfolding any_of
any_yes t a l e = rw (e, any_of)

any_later : {A : Type 0} (t : A → Bool) (a : A) (l : List A) → t a ≡ false → any_of t (a ∷ l) ≡ any_of t l
unfolding any_of
any_later t a l e = rw (e, any_of)

any_one : {A : Type 0} (t : A → Bool) (a : A) → any_of t (a ∷ []) ≡ t a
unfolding any_of
any_one t a = go (t a) refl
  where
    go : (b : Bool) → t a ≡ b → any_of t (a ∷ []) ≡ t a
    go true e = any_yes t a [] e ∙ sym e
    go false e = any_later t a [] e ∙ sym e

-- the two choices of one more line
abbrev Test : Type 0
Test = List Bool → Bool

more : Test → Test
more t c = t (false ∷ c) || t (true ∷ c)

any_two : (t : Test) (c : List Bool) (l : List (List Bool)) → any_of t ((false ∷ c) ∷ (true ∷ c) ∷ l) ≡ (more t c || any_of t l)
unfolding more any_of
any_two t c l = go (t (false ∷ c)) (t (true ∷ c)) refl refl
  where
    go : (x y : Bool) → t (false ∷ c) ≡ x → t (true ∷ c) ≡ y → any_of t ((false ∷ c) ∷ (true ∷ c) ∷ l) ≡ ((t (false ∷ c) || t (true ∷ c)) || any_of t l)
    go true y e f = rw (e, any_of)
    go false true e f = rw (e, f, any_of)
    go false false e f = rw (e, f, any_of)

any_more : (t : Test) (l : List (List Bool)) → any_of t (flat_map (λ c. (false ∷ c) ∷ (true ∷ c) ∷ []) l) ≡ any_of (more t) l
unfolding flat_map any_of
any_more t [] = refl
any_more t (c ∷ l) = any_two t c (flat_map (λ c. (false ∷ c) ∷ (true ∷ c) ∷ []) l) ∙ ap (λ (b : Bool). more t c || b) (any_more t l) ∙ go (more t c) refl
  where
    go : (b : Bool) → more t c ≡ b → (more t c || any_of (more t) l) ≡ any_of (more t) (c ∷ l)
    go true e = ap (λ (b : Bool). b || any_of (more t) l) e ∙ sym (any_yes (more t) c l e)
    go false e = ap (λ (b : Bool). b || any_of (more t) l) e ∙ sym (any_later (more t) c l e)

-- ONE OF ALL CHOICES PASSES A TEST EXACTLY IF A LIST OF SO MANY DIRECTIONS DOES
pub choice_found : (n : ℕ) (t : Test) → any_of t (choices n) ≡ true → (c : List Bool) × (length c ≡ n) × (t c ≡ true)
unfolding choices more
choice_found zero t h = ([], refl, sym (any_one t []) ∙ h)
choice_found (suc n) t h = go (choice_found n (more t) (sym (any_more t (choices n)) ∙ h))
  where
    go : (c : List Bool) × (length c ≡ n) × (more t c ≡ true) → (c : List Bool) × (length c ≡ suc n) × (t c ≡ true)
    go s = which (t (false ∷ s.0)) refl
      where
        which : (b : Bool) → t (false ∷ s.0) ≡ b → (c : List Bool) × (length c ≡ suc n) × (t c ≡ true)
        which true e = (false ∷ s.0, ap suc s.1, e)
        which false e = (true ∷ s.0, ap suc s.1, sym (ap (λ (b : Bool). b || t (true ∷ s.0)) e) ∙ s.2)

pub choice_there : (n : ℕ) (t : Test) (c : List Bool) → length c ≡ n → t c ≡ true → any_of t (choices n) ≡ true
unfolding choices more
choice_there zero t [] e h = any_one t [] ∙ h
choice_there zero t (d ∷ c) e h = absurd (omega arith)
choice_there (suc n) t [] e h = absurd (omega arith)
choice_there (suc n) t (d ∷ c) e h = any_more t (choices n) ∙ choice_there n (more t) c (omega arith) (go d h)
  where
    go : (d : Bool) → t (d ∷ c) ≡ true → (t (false ∷ c) || t (true ∷ c)) ≡ true
    go false h = ap (λ (b : Bool). b || t (true ∷ c)) h
    go true h = ap (λ (b : Bool). t (false ∷ c) || b) h ∙ both (t (false ∷ c))
      where
        both : (b : Bool) → (b || true) ≡ true
        both true = refl
        both false = refl

-- ---- lines by their points

abbrev pub points_of : List Line → List (List Point)
points_of ls = map (λ l. l.points) ls

meetings_linked : (m : Meeting) (p : Line) (d : Bool) (ls : List Line) (ds : List Bool) → length ds ≡ length ls
    → meetings m (p ∷ ls) (d ∷ ds) ≡ linked m p.points d (points_of ls) ds
unfolding meetings linked joint_at travelled run
meetings_linked m p d [] ds n = refl
meetings_linked m p d (l ∷ ls) [] n = absurd (omega arith)
meetings_linked m p d (l ∷ ls) (e ∷ ds) n =
    ap (λ (b : Bool). meet m (departed d p) (entered e l) && b) (meetings_linked m l e ls ds (omega arith))

end_course : (ls : List Line) (ds : List Bool) → end_to_end ls ds ≡ course (points_of ls) ds
unfolding end_to_end course travelled run
end_course [] ds = refl
end_course (l ∷ ls) [] = refl
end_course (l ∷ ls) (d ∷ ds) = ap (λ (x : List Point). travelled d l ++ x) (end_course ls ds)

course_numbers : (ls : List (List Point)) (ds : List Bool) → Each Sized ls → Each Number (course ls ds)
unfolding course
course_numbers [] ds s = nil
course_numbers (l ∷ ls) [] s = nil
course_numbers (l ∷ ls) (d ∷ ds) (cons s ss) = each_append (run_numbers d l s.numbers) (course_numbers ls ds ss)

module _ (m : Meeting) (chain : List Point) where
  abbrev t : List Value
  t = values chain

  -- coordinates equal what is laid exactly if their values are what is laid of the values
  agree_laid : (x : List Point) → Each Number x → agree (lay none x) chain ≡ true → laid same none (values x) ≡ t
  agree_laid x n h = sym (lay_values x n) ∙ agree_same (lay none x) chain (each_lay Number none x n) h

  laid_agree : (x : List Point) → Each Number x → laid same none (values x) ≡ t → agree (lay none x) chain ≡ true
  laid_agree x n h = same_agree (lay none x) chain (each_lay Number none x n) (lay_values x n ∙ h)

  -- ---- the first line

  module _ (l : List Point) (ls : List (List Point)) (d : Bool) (ds : List Bool) (s : Sized l) where
    abbrev it : Read d l
    it = read d l s

    abbrev after : List Value
    after = laid same (last_from none (it.first ∷ it.others)) (values (course ls ds))

    laid_first_line : laid same none (values (course (l ∷ ls) (d ∷ ds))) ≡ values (laid_run d l) ++ after
    laid_first_line =
        ap (laid same none) (course_values m chain l ls d ds ∙ ap (λ (y : List Value). y ++ values (course ls ds)) it.is)
        ∙ laid_append same one self none (it.first ∷ it.others) (values (course ls ds))
        ∙ ap (λ (y : List Value). y ++ after) (alone it.first it.others ∙ sym it.laid_is)

    -- the lines behind it lay the rest
    module _ (h : fit_at chain d l 0 ≡ true) where
      last_line : last_from none (it.first ∷ it.others) ≡ some (get_or t (end m chain l d s 0 h) origin)
      unfolding last_from
      last_line = fit_last m chain l d s 0 h origin

      whole_rest : laid same none (values (course (l ∷ ls) (d ∷ ds))) ≡ t → after ≡ drop (suc (end m chain l d s 0 h)) t
      whole_rest e =
          sym
          (fit_behind m chain l d s 0 h ∙ ap (λ (y : List Value). drop (length (values (laid_run d l))) y) (sym e ∙ laid_first_line)
          ∙ drop-append_seam (values (laid_run d l)) after)

      rest_whole : after ≡ drop (suc (end m chain l d s 0 h)) t → laid same none (values (course (l ∷ ls) (d ∷ ds))) ≡ t
      rest_whole e =
          laid_first_line
          ∙ ap₂ (λ (x y : List Value). x ++ y) it.laid_is (e ∙ fit_behind m chain l d s 0 h)
          ∙ sym (here m chain l d s 0 h)

  -- ---- THE THEOREM: a choice suits exactly if the first line stands at the first place, and a way leads on from behind it

  suits_begun : (l : Line) (ls : List Line) (d : Bool) (ds : List Bool) → Each Sized (points_of (l ∷ ls)) → length ds ≡ length ls
      → suits m (l ∷ ls) chain (d ∷ ds) ≡ true → Begun m chain l.points (points_of ls)
  unfolding suits
  suits_begun l ls d ds (cons s ss) n h =
      let a = (and-eq-true_iff (meetings m (l ∷ ls) (d ∷ ds)) (agree (lay none (end_to_end (l ∷ ls) (d ∷ ds))) chain)).0 h in
      let e : laid same none (values (course (points_of (l ∷ ls)) (d ∷ ds))) ≡ t =
      agree_laid (course (points_of (l ∷ ls)) (d ∷ ds)) (course_numbers (points_of (l ∷ ls)) (d ∷ ds) (cons s ss))
      (ap (λ (x : List Point). agree (lay none x) chain) (sym (end_course (l ∷ ls) (d ∷ ds))) ∙ a.1) in
      let f : fit_at chain d l.points 0 ≡ true =
      stands_fit chain d l.points 0 (after l.points (points_of ls) d ds s) s.numbers (sym e ∙ laid_first_line l.points (points_of ls) d ds s) in
      let i = end m chain l.points d s 0 f in
      let q : 0 + size_of l.points ≡ suc i = end_is m chain l.points d s 0 f in
      let g : Going m chain l.points d i (points_of ls) =
      record {
        ways = ds;
        each = n ∙ sym (length-map ls (λ (l : Line). l.points));
        meeting = sym (meetings_linked m l d ls ds n) ∙ a.0;
        lays = ap (λ (o : Option Value). laid same o (values (course (points_of ls) ds))) (sym (last_line l.points (points_of ls) d ds s f))
            ∙ whole_rest l.points (points_of ls) d ds s f e;
      } in
      let w : Way m chain l.points d (suc i) (points_of ls) =
      going_way m chain l.points d i (points_of ls) ss (omega (arith, q, fit_inside m chain l.points d s 0 f)) g in
      let z : size_of l.points ≡ suc i = omega arith in
      record { turned = d; stands = f; leads = subst (λ (k : ℕ). Way m chain l.points d k (points_of ls)) (sym z) w }

  pub choice_begun : (l : Line) (ls : List Line) → Each Sized (points_of (l ∷ ls)) → a_choice m (l ∷ ls) chain ≡ true → Begun m chain l.points (points_of ls)
  unfolding a_choice
  choice_begun l ls s h = go (choice_found (suc (length ls)) (suits m (l ∷ ls) chain) h)
    where
      go : (c : List Bool) × (length c ≡ suc (length ls)) × (suits m (l ∷ ls) chain c ≡ true) → Begun m chain l.points (points_of ls)
      go c = split c.0 c.1 c.2
        where
          split : (c : List Bool) → length c ≡ suc (length ls) → suits m (l ∷ ls) chain c ≡ true → Begun m chain l.points (points_of ls)
          split [] n e = absurd (omega arith)
          split (d ∷ ds) n e = suits_begun l ls d ds s (omega arith) e

  pub begun_choice : (l : Line) (ls : List Line) → Each Sized (points_of (l ∷ ls)) → Begun m chain l.points (points_of ls) → a_choice m (l ∷ ls) chain ≡ true
  unfolding a_choice suits
  begun_choice l ls (cons s ss) b =
      let d = b.turned in
      let f = b.stands in
      let i = end m chain l.points d s 0 f in
      let q : 0 + size_of l.points ≡ suc i = end_is m chain l.points d s 0 f in
      let z : size_of l.points ≡ suc i = omega arith in
      let g = way_going m chain l.points d i (points_of ls) ss (omega (arith, q, fit_inside m chain l.points d s 0 f))
      (subst (λ (k : ℕ). Way m chain l.points d k (points_of ls)) z b.leads) in
      let n : length g.ways ≡ length ls = g.each ∙ length-map ls (λ (l : Line). l.points) in
      let e : laid same none (values (course (points_of (l ∷ ls)) (d ∷ g.ways))) ≡ t =
      rest_whole l.points (points_of ls) d g.ways s f
      (ap (λ (o : Option Value). laid same o (values (course (points_of ls) g.ways))) (last_line l.points (points_of ls) d g.ways s f) ∙ g.lays) in
      choice_there (suc (length ls)) (suits m (l ∷ ls) chain) (d ∷ g.ways) (ap suc n)
      ((and-eq-true_iff (meetings m (l ∷ ls) (d ∷ g.ways)) (agree (lay none (end_to_end (l ∷ ls) (d ∷ g.ways))) chain)).1 (
        meetings_linked m l d ls g.ways n ∙ g.meeting,
        ap (λ (x : List Point). agree (lay none x) chain) (end_course (l ∷ ls) (d ∷ g.ways))
            ∙ laid_agree (course (points_of (l ∷ ls)) (d ∷ g.ways)) (course_numbers (points_of (l ∷ ls)) (d ∷ g.ways) (cons s ss)) e,
      ))
