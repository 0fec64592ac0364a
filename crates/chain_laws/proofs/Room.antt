-- Rooms: what a call writes fits the rooms that 01 names: at most n chains, n members, marks and numbers of the listing, and at most c merged points.
-- Each chain has a line, each line stands in one chain, and merging drops points and adds none.
use Prim.Native.Nat.{◌*◌, ℕ, suc, ◌+◌, ◌≤◌, zero-le}
use mathlib.Core.Path.{◌≡◌, refl, ap, ◌∙◌}
use mathlib.Core.Bool.{Bool, true, false, cond, beq}
use mathlib.Core.List.{List, [], ◌∷◌, map, flat_map, reverse, map-append}
use mathlib.Core.Option.{Option, none, some}
use native.Mathlib.Omega.{arith}
use native.Mathlib.Nat.{mul-le-mul_right}
use lib.Dec.{eqb}
use lib.Ieee.{lt}
use lib.ListN.{drop, length-take, length, length-append, length-reverse}
use Rattle.rules.specs.declared.Settings.{Settings}
use Rattle.rules.specs.Answers.{Exact}
use Rattle.rules.specs.Lists.{upto, total}
use Rattle.rules.specs.Plane.{Point, points, equal, nought}
use Rattle.rules.specs.Walking.{side_of, walks}
use Rattle.rules.specs.Chaining.{cells_of, Piece, Rule, piece_at, run, lay, merged, merge, join, partner, Line, plain, alone, pieces, round_one, round_two, chains, rule_of}
use Rattle.rules.specs.Layout.{lines, copied, copy, Laid, laid_out, build, lent, six}
use Rattle.rules.specs.Refusals.{record_size}
use Rattle.chain_laws.proofs.Counts.{upto_length, Each, nil, cons}
use Rattle.chain_laws.proofs.Totals.{total_append, same_length}
use Rattle.chain_laws.proofs.Lines.{chains_count, lines_of, along, spread, pieces_take, pieces_leave}
use Rattle.point_numbers.proofs.Points.{flat_length}
use Rattle.chain_laws.proofs.Records.{six_length, rows_length}
use Rattle.chain_laws.proofs.Drawn.{marks_all, listings_long}
use Rattle.chain_laws.proofs.Sound.{Sound, chains_sound, chains_drawn}

pub lay_short : (o : Option Point) (l : List Point) → length (lay o l) ≤ length l
unfolding lay
lay_short o [] = zero-le
lay_short none (p ∷ l) = omega (arith, lay_short (some p) l)
lay_short (some q) (p ∷ l) = go (equal q p) refl (lay_short (some q) l) (lay_short (some p) l)
  where
    go : (t : Bool) → equal q p ≡ t → length (lay (some q) l) ≤ length l → length (lay (some p) l) ≤ length l → length (lay (some q) (p ∷ l)) ≤ length (p ∷ l)
    go true e a b = rw (e, lay) (omega arith)
    go false e a b = rw (e, lay) (omega arith)

abbrev pub size : Piece → ℕ
size p = length p.points

module _ (rule : Rule) (ps : List Piece) where
  pub run_size : (e : ℕ) → length (run rule ps e) ≡ size (piece_at rule ps e)
  unfolding run
  run_size e = go (eqb (side_of e) 0)
    where
      go : (t : Bool) → length (cond t (piece_at rule ps e).points (reverse (piece_at rule ps e).points)) ≡ size (piece_at rule ps e)
      go true = refl
      go false = length-reverse (piece_at rule ps e).points

  pub runs_size : (w : List ℕ) → length (flat_map (run rule ps) w) ≡ along rule ps size w
  unfolding flat_map along total
  runs_size [] = refl
  runs_size (e ∷ w) = omega (arith, length-append (run rule ps e) (flat_map (run rule ps) w), run_size e, runs_size w)

  pub merged_size : (w : List ℕ) → length (merged rule ps w) ≤ along rule ps size w
  unfolding merged along total
  merged_size [] = zero-le
  merged_size (e ∷ []) = omega arith
  merged_size (e ∷ f ∷ w) = omega (arith, lay_short none (flat_map (run rule ps) (e ∷ f ∷ w)), runs_size (e ∷ f ∷ w))

  pub merges_size : (ws : List (List ℕ)) → total (map size (map (merge rule ps) ws)) ≤ total (map (along rule ps size) ws)
  unfolding total merge
  merges_size [] = zero-le
  merges_size (w ∷ ws) = omega (arith, merged_size w, merges_size ws)

  pub join_size : total (map size (join rule ps)) ≤ total (map size ps)
  unfolding join
  join_size = omega (arith, merges_size (walks (partner rule ps) (length ps)), spread rule ps size)

pub pieces_size : (k : ℕ) (ls : List Line)
    → total (map size (pieces true k ls)) + total (map size (pieces false k ls)) ≡ total (map (λ l. length l.points) ls)
unfolding pieces total alone
pieces_size k [] = refl
pieces_size k (l ∷ ls) = go (plain l) refl (pieces_size (suc k) ls)
  where
    go : (t : Bool) → plain l ≡ t
        → total (map size (pieces true (suc k) ls)) + total (map size (pieces false (suc k) ls)) ≡ total (map (λ l. length l.points) ls)
        → total (map size (pieces true k (l ∷ ls))) + total (map size (pieces false k (l ∷ ls))) ≡ total (map (λ l. length l.points) (l ∷ ls))
    go true e ih =
        rw (pieces_take true k l ls (ap (beq true) e), pieces_leave false k l ls (ap (beq false) e)) (omega arith)
    go false e ih =
        rw (pieces_leave true k l ls (ap (beq true) e), pieces_take false k l ls (ap (beq false) e)) (omega arith)

two_size : (s : Settings) (ps : List Piece) → total (map size (round_two s ps)) ≤ total (map size ps)
unfolding round_two
two_size s ps = go (lt nought s.tolerance) refl
  where
    go : (t : Bool) → lt nought s.tolerance ≡ t → total (map size (round_two s ps)) ≤ total (map size ps)
    go true e = rw (e, round_two) (join_size (rule_of (cells_of s) s) ps)
    go false e = rw (e, round_two) (omega arith)

pub chains_size : (s : Settings) (ls : List Line) → total (map size (chains s ls)) ≤ total (map (λ l. length l.points) ls)
unfolding chains round_one
chains_size s ls =
    rw (map-append size (round_two s (round_one s (pieces true 0 ls))) (pieces false 0 ls), total_append)
    (omega (
      arith,
      two_size s (round_one s (pieces true 0 ls)),
      join_size (rule_of Exact s) (pieces true 0 ls),
      pieces_size 0 ls,
    ))

pub copy_size : (p : Piece) → length (copy p) ≤ size p
unfolding copy
copy_size p = go (copied p) refl
  where
    go : (t : Bool) → copied p ≡ t → length (copy p) ≤ size p
    go true e = rw (e, copy) (omega arith)
    go false e = rw (e, copy) zero-le

pub copies_size : (ps : List Piece) → length (flat_map copy ps) ≤ total (map size ps)
unfolding flat_map total
copies_size [] = zero-le
copies_size (p ∷ ps) = omega (arith, length-append (copy p) (flat_map copy ps), copy_size p, copies_size ps)

-- no more merged points than the lines have
pub copies_fit : (s : Settings) (ls : List Line) → length (flat_map copy (chains s ls)) ≤ total (map (λ l. length l.points) ls)
copies_fit s ls = omega (arith, copies_size (chains s ls), chains_size s ls)

-- there are as many members as lines
pub members_fit : (s : Settings) (ls : List Line) → length (lines_of (chains s ls)) ≡ length ls
members_fit s ls = same_length (lines_of (chains s ls)) (upto (length ls)) (chains_count s ls) ∙ upto_length (length ls)

-- no more chains than lines: each has one
pub full_long : (ls : List Line) (ps : List Piece) → Each (Sound ls) ps → length ps ≤ length (lines_of ps)
unfolding flat_map
full_long ls ps nil = zero-le
full_long ls ps (cons {a = p} {l = qs} s a) = omega (arith, length-append p.lines (lines_of qs), s.full, full_long ls qs a)

pub chains_fit : (s : Settings) (ls : List Line) → length (chains s ls) ≤ length ls
chains_fit s ls = omega (arith, full_long ls (chains s ls) (chains_sound s ls), members_fit s ls)

-- a mark for each member, and a place in the listing
pub marks_fit : (s : Settings) (ls : List Line) → length (flat_map (λ p. p.marks) (chains s ls)) ≡ length (lines_of (chains s ls))
marks_fit s ls = marks_all (chains s ls) (chains_drawn s ls)

pub listing_fit : (s : Settings) (ls : List Line) → length (flat_map (λ p. p.listing) (chains s ls)) ≡ length (lines_of (chains s ls))
listing_fit s ls = listings_long (chains s ls) (chains_drawn s ls)

-- ---- a call

pub lines_length : (ps : List Point) (cs gs ks : List ℕ) → length (lines ps cs gs ks) ≡ length cs
unfolding lines
lines_length ps [] gs ks = refl
lines_length ps (c ∷ cs) gs ks = ap suc (lines_length (drop c ps) cs (drop 1 gs) (drop 1 ks))

pub lines_size : (ps : List Point) (cs gs ks : List ℕ) → total (map (λ l. length l.points) (lines ps cs gs ks)) ≤ total cs
unfolding lines total
lines_size ps [] gs ks = zero-le
lines_size ps (c ∷ cs) gs ks = omega (arith, length-take c ps, lines_size (drop c ps) cs (drop 1 gs) (drop 1 ks))

pub record Fits (n numbers : ℕ) (a : Laid) : Type 0 where
  pub chains : a.number ≤ n
  pub records : length a.records ≡ a.number * record_size
  pub members : length a.members ≡ n
  pub marks : length a.marks ≡ n
  pub listing : length a.listing ≡ n
  pub merged : length a.merged ≤ numbers

-- WHAT A CALL WRITES FITS, where its counts add up
pub build_fits : (w : ℕ) (coordinates counts groups kinds : List ℕ) (s : Settings) → total counts * w ≡ length coordinates
    → Fits (length counts) (length coordinates) (build w s (lent coordinates counts groups kinds))
unfolding build laid_out
build_fits w coordinates counts groups kinds s h =
    record {
      chains = omega (arith, chains_fit s ls, size);
      records = rows_length (six counts) record_size (six_length counts) 0 0 (chains s ls);
      members = members_fit s ls ∙ size;
      marks = marks_fit s ls ∙ members_fit s ls ∙ size;
      listing = listing_fit s ls ∙ members_fit s ls ∙ size;
      merged =
          let few : length (flat_map copy (chains s ls)) ≤ total counts = omega (arith, copies_fit s ls, lines_size (points w coordinates) counts groups kinds) in
          omega (arith, flat_length w (flat_map copy (chains s ls)), mul-le-mul_right w few);
    }
  where
    ls : List Line
    ls = lines (points w coordinates) counts groups kinds

    size : length ls ≡ length counts
    size = lines_length (points w coordinates) counts groups kinds
