-- A round keeps it that the lines of a piece meet, as they are passed. A walk passes its pieces one after another, each from the end at which it is entered;
-- within a piece they meet as before, from either end; and where a piece follows another, the keys of their ends are the same, and so are the keys of
-- the lines' own points there: in round one a piece is a line, and in round two a piece's point is equal to its line's, so that both have one cell.
use Prim.Native.Nat.{ℕ, zero, suc, ◌<◌}
use mathlib.Core.Path.{◌≡◌, refl, sym, ap, ap₂, ◌∙◌}
use mathlib.Core.Bool.{Bool, true, false, ◌&&◌, ◌||◌, cond, and-eq-true_iff}
use mathlib.Core.List.{List, [], ◌∷◌, map, reverse}
use native.Mathlib.Omega.{arith}
use lib.Dec.{eqb}
use lib.IntN.{ℤ}
use lib.Ieee.{lt}
use Rattle.rules.specs.declared.Meeting.{Meeting}
use Rattle.std.specs.Prelude.{Some}
use Rattle.rules.specs.Answers.{Grid}
use Rattle.rules.specs.Answers.{Exact, Cells}
use Rattle.rules.specs.Lists.{count}
use Rattle.rules.specs.Plane.{Point, Key, key, same_int, same_key, exact_key, cell_key, key_of, nought}
use Rattle.rules.specs.Chaining.{Piece, Line}
use Rattle.rules.specs.Check.{one_key, meet}
use Rattle.chain_laws.proofs.Drawn.{count_reverse}
use Rattle.chain_extras.specs.Bare.{own_points}
use Rattle.chain_travel.specs.Travel.{drawn, mark_of}
use Rattle.chain_travel.proofs.Lists.{flat_map_same, flat_map_reverse, map_flat_map}
use Rattle.chain_travel.proofs.Joining.{drawn_as_before, drawn_turned, Passes, marks_from, listing_from, mark_low, drawn_from}
use Rattle.check_built.specs.Runs.{meets_all, turned_runs, runs_by, runs_of}
use Rattle.check_built.proofs.Runs.{meets_turned}

-- ---- keys

key_parts : (g h : ℕ) (a b c d : ℤ) → key g a b ≡ key h c d → (a ≡ c) × (b ≡ d)
key_parts g h a b c d e = (cc, cc)

-- keys of two groups that are the same are the same without them
pub bare_key : (grid : Grid) (g h : ℕ) (p q : Point) → key_of grid g p ≡ key_of grid h q → key_of grid 0 p ≡ key_of grid 0 q
unfolding key_of exact_key cell_key
bare_key Exact g h p q e = let t = key_parts g h _ _ _ _ e in ap₂ (λ (a b : ℤ). key 0 a b) t.0 t.1
bare_key (Some m) g h p q e = let s = key_parts g h _ _ _ _ e in ap₂ (λ (a b : ℤ). key 0 a b) s.0 s.1

int_self : (a : ℤ) → same_int a a ≡ true
int_self (lib.IntN.pos a) = borrow.Author.Tests.eq-eqb a a refl
int_self (lib.IntN.negsuc a) = borrow.Author.Tests.eq-eqb a a refl

key_self : (k : Key) → same_key k k ≡ true
unfolding same_key
key_self (key g a b) =
    (and-eq-true_iff (eqb g g) (same_int a a && same_int b b)).1
    (borrow.Author.Tests.eq-eqb g g refl, (and-eq-true_iff (same_int a a) (same_int b b)).1 (int_self a, int_self b))

one_key_lem : (grid : Grid) (p q : Point) → key_of grid 0 p ≡ key_of grid 0 q → one_key grid p q ≡ true
unfolding one_key
one_key_lem grid p q e = ap (λ (k : Key). same_key (key_of grid 0 p) k) (sym e) ∙ key_self (key_of grid 0 p)

-- a grid by which lines may meet: the exact one, or with a tolerance that of the cells
pub data Meets (m : Meeting) : Grid → Type 0 where
  by_bits : Meets m Exact
  by_cells : lt nought m.tolerance ≡ true → Meets m (Cells m.tolerance m.origin_x m.origin_y)

pub meet_by : (m : Meeting) (grid : Grid) (p q : Point) → Meets m grid → key_of grid 0 p ≡ key_of grid 0 q → meet m p q ≡ true
unfolding meet
meet_by m grid p q by_bits e = ap (λ (b : Bool). b || (lt nought m.tolerance && one_key (Cells m.tolerance m.origin_x m.origin_y) p q)) (one_key_lem Exact p q e)
meet_by m grid p q (by_cells h) e =
    ap (λ (b : Bool). one_key Exact p q || b)
    ((and-eq-true_iff (lt nought m.tolerance) (one_key (Cells m.tolerance m.origin_x m.origin_y) p q)).1
    (h, one_key_lem (Cells m.tolerance m.origin_x m.origin_y) p q e))
    ∙ last (one_key Exact p q)
  where
    last : (b : Bool) → (b || true) ≡ true
    last true = refl
    last false = refl

-- ---- a piece that is passed from one of its ends

module _ (ls : List Line) (p : Piece) (keeps : Passes ls p) where
  abbrev pub runs_from : ℕ → List (List Point)
  runs_from side = cond (eqb side 0) (runs_of ls p) (turned_runs (runs_of ls p))

  pub runs_from_lem : (side : ℕ) → side < 2 → runs_by ls p.lines (marks_from ls p keeps side) (listing_from ls p keeps side) ≡ runs_from side
  unfolding runs_by
  runs_from_lem zero h =
      flat_map_same _ _ p.listing
      (λ k i. ap {B = List (List Point)} (λ (r : List Point). r ∷ [])
      (drawn_from ls p keeps 0 k i ∙ drawn_as_before (mark_of p.lines p.marks k) (own_points ls k) (mark_low ls p keeps k i)))
  runs_from_lem (suc zero) h =
      flat_map_same _ _ (reverse p.listing)
      (λ k i. let j : 0 < count k p.listing = omega (arith, count_reverse k p.listing) in
      ap {B = List (List Point)} (λ (r : List Point). r ∷ [])
      (drawn_from ls p keeps 1 k j ∙ drawn_turned (mark_of p.lines p.marks k) (own_points ls k) (mark_low ls p keeps k j)))
      ∙ sym
      (ap (map (λ (r : List Point). reverse r)) (flat_map_reverse (λ k. drawn (mark_of p.lines p.marks k) (own_points ls k) ∷ []) p.listing)
      ∙ map_flat_map (λ (r : List Point). reverse r) (λ k. drawn (mark_of p.lines p.marks k) (own_points ls k) ∷ []) (reverse p.listing))
  runs_from_lem (suc (suc side)) h = absurd (omega arith)

  pub meets_from : (m : Meeting) (side : ℕ) → meets_all m (runs_of ls p) ≡ true → meets_all m (runs_from side) ≡ true
  meets_from m side h = go (eqb side 0)
    where
      go : (t : Bool) → meets_all m (cond t (runs_of ls p) (turned_runs (runs_of ls p))) ≡ true
      go true = h
      go false = meets_turned m (runs_of ls p) h
