-- The lines of every chain meet, as they are passed: they do where a piece is a line alone, and both rounds keep it (Walks). In round one the key of an
-- end is that of its line's own point. In round two a piece's point at an end is equal to its line's, since the piece's points lay as its lines do, and
-- equal points have one cell.
use Prim.Native.Nat.{ℕ, zero, suc, ◌+◌, ◌-◌, ◌≤◌, ◌<◌}
use mathlib.Core.Path.{◌≡◌, refl, sym, ap, ap₂, ◌∙◌, subst}
use mathlib.Core.Bool.{Bool, true, false, cond, beq, and-eq-true_iff}
use mathlib.Core.List.{List, [], ◌∷◌, ◌++◌, map, flat_map, flatten, reverse, reverse-cons, reverse-append, map-append, append_assoc, append-nil}
use mathlib.Core.Option.{some}
use native.Mathlib.Omega.{arith}
use lib.Dec.{eqb, leb}
use lib.IntN.{ℤ}
use lib.Ieee.{Float, lt, eq}
use lib.ListN.{length, get_or, length-append, length-reverse}
use borrow.Author.Tests.{leb-true}
use Rattle.rules.specs.declared.Meeting.{Meeting}
use Rattle.rules.specs.declared.Settings.{Settings}
use Rattle.rules.specs.Answers.{Exact, Cells}
use Rattle.rules.specs.Lists.{count, first_place}
use Rattle.rules.specs.Plane.{Point, point, key, float, equal, key_of, cell_key, nought}
use Rattle.rules.specs.Walking.{piece_of, side_of}
use Rattle.rules.specs.Chaining.{Piece, nothing, Rule, Line, plain, alone, pieces, piece_at, run, rule_of, cells_of, round_one, round_two, chains}
use Rattle.rules.specs.Refusals.{any_nowhere}
use Rattle.chain_laws.proofs.Counts.{Each, nil, cons, each_append, each_weak, each_of, each_get_d, count_append, one_same, one_other}
use Rattle.chain_laws.proofs.Lines.{lines_of, join_count, pieces_take, pieces_leave}
use Rattle.chain_laws.proofs.Sound.{no_line, Sound, alones}
use Rattle.chain_extras.specs.Bare.{own_points}
use Rattle.chain_travel.specs.Travel.{drawn, mark_of, passing}
use Rattle.chain_travel.proofs.Laying.{laid, laid_first}
use Rattle.chain_travel.proofs.Values.{Number, value, same, self, equal_value}
use Rattle.chain_travel.proofs.Joining.{laid_values, way, Passes, at, way_on, run_lays, run_numbers}
use Rattle.chain_travel.proofs.Travel.{alones_pass, from_first, left, left_sound, left_once, left_passes}
use Rattle.build_lines.proofs.Passing.{pieces_lone}
use Rattle.check_built.specs.Runs.{first_of, meets_all, turned_runs, runs_by, runs_of}
use Rattle.check_built.specs.Built.{meeting_of}
use Rattle.check_built.proofs.Cells.{equal_cell}
use Rattle.check_built.proofs.Runs.{first_run}
use Rattle.check_built.proofs.Pieces.{by_bits, by_cells}
use Rattle.check_built.proofs.Walks.{runs_on, on_filled, join_meets}

-- ---- points that are equal have one cell key

value_key : (t ox oy : Float) (p q : Point) → Number q → value p ≡ value q → key_of (Cells t ox oy) 0 p ≡ key_of (Cells t ox oy) 0 q
unfolding key_of cell_key equal
value_key t ox oy p q n e =
    let h : equal p q ≡ true = equal_value p q n ∙ ap (λ (v : ℕ × ℕ). same v (value q)) e ∙ self (value q) in
    let s = (and-eq-true_iff (eq (float p.x) (float q.x)) (eq (float p.y) (float q.y))).0 h in
    ap₂ (λ (a b : ℤ). key 0 a b) (equal_cell t ox p.x q.x s.0) (equal_cell t oy p.y q.y s.1)

-- ---- runs, one behind another, are the way

flatten_append : (a b : List (List Point)) → flatten (a ++ b) ≡ flatten a ++ flatten b
unfolding flatten
flatten_append [] b = refl
flatten_append (r ∷ a) b = ap (λ (l : List Point). r ++ l) (flatten_append a b) ∙ sym (append_assoc r (flatten a) (flatten b))

flatten_turned : (rs : List (List Point)) → flatten (turned_runs rs) ≡ reverse (flatten rs)
unfolding flatten
flatten_turned [] = refl
flatten_turned (r ∷ rs) =
    ap (λ (l : List (List Point)). flatten (map (λ (r : List Point). reverse r) l)) (reverse-cons r rs)
    ∙ ap flatten (map-append (λ (r : List Point). reverse r) (reverse rs) (r ∷ []))
    ∙ flatten_append (turned_runs rs) (reverse r ∷ [])
    ∙ ap₂ (λ (a b : List Point). a ++ b) (flatten_turned rs) (append-nil (reverse r))
    ∙ sym (reverse-append r (flatten rs))

flatten_runs : (ls : List Line) (members marks listing : List ℕ) → flatten (runs_by ls members marks listing) ≡ passing ls members marks listing
unfolding runs_by passing flat_map flatten
flatten_runs ls members marks [] = refl
flatten_runs ls members marks (k ∷ l) = ap (λ (x : List Point). drawn (mark_of members marks k) (own_points ls k) ++ x) (flatten_runs ls members marks l)

first_flat : (rs : List (List Point)) → 0 < length rs → 0 < length (first_run rs) → first_of (flatten rs) ≡ first_of (first_run rs)
unfolding flatten
first_flat [] h k = absurd (omega arith)
first_flat ([] ∷ rs) h k = absurd (omega arith)
first_flat ((p ∷ r) ∷ rs) h k = refl

flat_filled : (rs : List (List Point)) → 0 < length rs → 0 < length (first_run rs) → 0 < length (flatten rs)
unfolding flatten
flat_filled [] h k = absurd (omega arith)
flat_filled (r ∷ rs) h k = omega (arith, length-append r (flatten rs))

-- runs that lay the same begin with the same value
first_value : (a b : List Point) → 0 < length a → 0 < length b → laid_values a ≡ laid_values b → value (first_of a) ≡ value (first_of b)
first_value [] b h k e = absurd (omega arith)
first_value (p ∷ a) [] h k e = absurd (omega arith)
first_value (p ∷ a) (q ∷ b) h k e =
    let x = laid_first same (value p) (map value a) in
    let y = laid_first same (value q) (map value b) in
    let z : value p ∷ laid same (some (value p)) (map value a) ≡ value q ∷ laid same (some (value q)) (map value b) = sym x ∙ e ∙ y in
    cc

still_filled : (a b : List Point) → laid_values a ≡ laid_values b → 0 < length b → 0 < length a
unfolding laid
still_filled (p ∷ a) b e h = omega arith
still_filled [] [] e h = h
still_filled [] (q ∷ b) e h = let y = laid_first same (value q) (map value b) in absurd (omega (arith, ap length (e ∙ y)))

-- ---- runs that have points

Filled : List Point → Type 0
Filled r = 0 < length r

drawn_length : (mark : ℕ) (l : List Point) → length (drawn mark l) ≡ length l
unfolding drawn
drawn_length mark l = go (eqb mark 0)
  where
    go : (t : Bool) → length (cond t l (reverse l)) ≡ length l
    go true = refl
    go false = length-reverse l

runs_filled : (ls : List Line) (members marks listing : List ℕ) → ((k : ℕ) → 0 < count k listing → 0 < length (own_points ls k))
    → Each Filled (runs_by ls members marks listing)
unfolding runs_by flat_map count Filled
runs_filled ls members marks [] h = nil
runs_filled ls members marks (k ∷ l) h =
    let here : 0 < length (drawn (mark_of members marks k) (own_points ls k)) =
    omega (arith, drawn_length (mark_of members marks k) (own_points ls k), h k (omega (arith, one_same k k refl))) in
    cons here (runs_filled ls members marks l (λ y i. h y (omega arith)))

each_turn : (rs : List (List Point)) → Each Filled rs → Each Filled (map (λ (r : List Point). reverse r) rs)
unfolding Filled
each_turn rs nil = nil
each_turn rs (cons {a = r} {l = l} h a) = let here : 0 < length (reverse r) = omega (arith, length-reverse r) in cons here (each_turn l a)

each_back : (rs : List (List Point)) → Each Filled rs → Each Filled (reverse rs)
each_back [] nil = nil
each_back (r ∷ rs) (cons h a) = subst (Each Filled) (sym (reverse-cons r rs)) (each_append (each_back rs a) (cons h nil))

first_filled : (rs : List (List Point)) → Each Filled rs → 0 < length rs → 0 < length (first_run rs)
unfolding Filled
first_filled rs nil h = absurd (omega arith)
first_filled rs (cons k a) h = k

-- ---- the lines that are joined are plain

two_points : (l : Line) → plain l ≡ true → 0 < length l.points
unfolding plain
two_points l h = omega (arith, leb-true 2 (length l.points) ((and-eq-true_iff (eqb l.kind 0) (leb 2 (length l.points))).0 h).1)

joined_plain : (ls : List Line) (k : ℕ) (ms : List Line) → ((i : ℕ) → get_or ls (k + i) no_line ≡ get_or ms i no_line) → (y : ℕ)
    → 0 < count y (lines_of (pieces true k ms)) → plain (get_or ls y no_line) ≡ true
unfolding pieces alone flat_map count
joined_plain ls k [] h y c = absurd (omega arith)
joined_plain ls k (l ∷ ms) h y c = go (plain l) refl (joined_plain ls (suc k) ms (λ i. ap (λ (m : ℕ). get_or ls m no_line) (omega arith) ∙ h (suc i)) y)
  where
    here : get_or ls k no_line ≡ l
    here = let e : k ≡ k + 0 = omega arith in ap (λ (m : ℕ). get_or ls m no_line) e ∙ h 0

    go : (t : Bool) → plain l ≡ t → (0 < count y (lines_of (pieces true (suc k) ms)) → plain (get_or ls y no_line) ≡ true) → plain (get_or ls y no_line) ≡ true
    go true e f =
        elim (native.Mathlib.Decide.ℕ_discrete y k) [
          | yes q ↦ ap (λ (m : ℕ). plain (get_or ls m no_line)) q ∙ ap plain here ∙ e
          | no q ↦ f (omega (arith, later (pieces_take true k l ms (ap (beq true) e)), one_other y k q))
        ]
      where
        later : pieces true k (l ∷ ms) ≡ alone k l ∷ pieces true (suc k) ms → count y (lines_of (pieces true k (l ∷ ms))) ≡ count y (k ∷ []) + count y (lines_of (pieces true (suc k) ms))
        later e = ap (λ (ps : List Piece). count y (lines_of ps)) e ∙ count_append y (k ∷ []) (lines_of (pieces true (suc k) ms))
    go false e f = f (subst (λ (ps : List Piece). 0 < count y (lines_of ps)) (pieces_leave true k l ms (ap (beq true) e)) c)

-- ---- a line alone

no_mark : (i : ℕ) → ◌≡◌ {A = ℕ} (get_or (0 ∷ []) i 0) 0
no_mark zero = refl
no_mark (suc i) = refl

alone_runs : (ls : List Line) (k : ℕ) (l : Line) → get_or ls k no_line ≡ l → runs_of ls (alone k l) ≡ l.points ∷ []
unfolding alone runs_by flat_map mark_of drawn
alone_runs ls k l h =
    ap {B = List (List Point)} (λ (m : ℕ). drawn m (own_points ls k) ∷ []) (no_mark (first_place (eqb k) (k ∷ [])))
    ∙ ap {B = List (List Point)} (λ (x : Line). x.points ∷ []) h

-- a piece is a line: its one run is its points
IsLine : List Line → Piece → Type 0
IsLine ls p = runs_of ls p ≡ p.points ∷ []

alones_lines : (ls : List Line) (want : Bool) (k : ℕ) (ms : List Line) → ((i : ℕ) → get_or ls (k + i) no_line ≡ get_or ms i no_line) → Each (IsLine ls) (pieces want k ms)
unfolding pieces alone IsLine
alones_lines ls want k [] h = nil
alones_lines ls want k (l ∷ ms) h =
    go (beq want (plain l)) refl (alones_lines ls want (suc k) ms (λ i. ap (λ (m : ℕ). get_or ls m no_line) (omega arith) ∙ h (suc i)))
  where
    go : (t : Bool) → beq want (plain l) ≡ t → Each (IsLine ls) (pieces want (suc k) ms) → Each (IsLine ls) (pieces want k (l ∷ ms))
    go true e ih = rw (pieces_take want k l ms e) (cons (alone_runs ls k l (ap (λ (m : ℕ). get_or ls m no_line) (omega arith) ∙ h 0)) ih)
    go false e ih = rw (pieces_leave want k l ms e) ih

lines_meet : (ls : List Line) (m : Meeting) (ps : List Piece) → Each (IsLine ls) ps → Each (λ p. meets_all m (runs_of ls p) ≡ true) ps
unfolding IsLine meets_all
lines_meet ls m ps nil = nil
lines_meet ls m ps (cons {l = l} h a) = cons (ap (meets_all m) h) (lines_meet ls m l a)

-- ---- the rounds

module _ (ls : List Line) (places : Each (λ l. any_nowhere l.points ≡ false) ls) (s : Settings) where
  abbrev m : Meeting
  m = meeting_of s

  abbrev first_rule : Rule
  first_rule = rule_of Exact s

  abbrev lines : List Piece
  lines = pieces true 0 ls

  lines_pass : Each (Passes ls) lines
  lines_pass = alones_pass ls places true 0 ls (from_first ls places)

  lines_sound : Each (Sound ls) lines
  lines_sound = alones ls true 0 ls (from_first ls places)

  are_lines : Each (IsLine ls) lines
  are_lines = alones_lines ls true 0 ls (from_first ls places)

  -- in round one a piece's points are its line's
  seen_lines : (e : ℕ) → piece_of e < length lines
      → key_of Exact 0 (first_of (run first_rule lines e)) ≡ key_of Exact 0 (first_of (first_run (runs_on ls m first_rule lines lines_pass lines_sound e)))
  unfolding run piece_at IsLine
  seen_lines e h =
      let p = get_or lines (piece_of e) nothing in
      let q = each_get_d (IsLine ls) lines (piece_of e) nothing are_lines h in
      ap (λ (r : List Point). key_of Exact 0 (first_of r)) (go (eqb (side_of e) 0) p.points (runs_of ls p) q)
    where
      go : (t : Bool) (l : List Point) (rs : List (List Point)) → rs ≡ l ∷ [] → cond t l (reverse l) ≡ first_run (cond t rs (turned_runs rs))
      go true l rs q = ap first_run (sym q)
      go false l rs q = ap (λ (x : List (List Point)). first_run (turned_runs x)) (sym q)

  left_meets : Each (λ p. meets_all m (runs_of ls p) ≡ true) (left ls places s)
  left_meets = join_meets ls m first_rule lines lines_pass lines_sound by_bits (lines_meet ls m lines are_lines) seen_lines (left_once ls places s)

  -- ---- round two

  abbrev second_rule : Rule
  second_rule = rule_of (cells_of s) s

  abbrev ps : List Piece
  ps = left ls places s

  abbrev on : ℕ → List (List Point)
  on e = runs_on ls m second_rule ps (left_passes ls places s) (left_sound ls places s) e

  -- a line of a piece is among all
  part_of_lem : (y : ℕ) (qs : List Piece) (i : ℕ) → 0 < count y (get_or qs i nothing).lines → 0 < count y (lines_of qs)
  unfolding flat_map count
  part_of_lem y [] i h = h
  part_of_lem y (p ∷ qs) zero h = omega (arith, count_append y p.lines (lines_of qs))
  part_of_lem y (p ∷ qs) (suc i) h = omega (arith, count_append y p.lines (lines_of qs), part_of_lem y qs i h)

  listed_filled : (e k : ℕ) → 0 < count k (piece_at second_rule ps e).listing → 0 < length (own_points ls k)
  unfolding piece_at
  listed_filled e k h =
      let p = get_or ps (piece_of e) nothing in
      let a : 0 < count k p.lines = omega (arith, (at ls second_rule ps (left_passes ls places s) (left_sound ls places s) e).drawn.passes k) in
      two_points (get_or ls k no_line)
      (joined_plain ls 0 ls (from_first ls places) k (omega (arith, part_of_lem k ps (piece_of e) a, join_count first_rule lines k)))

  on_all_filled : (e : ℕ) → Each Filled (on e)
  on_all_filled e = go (eqb (side_of e) 0)
    where
      p : Piece
      p = piece_at second_rule ps e

      runs : Each Filled (runs_of ls (piece_at second_rule ps e))
      runs = runs_filled ls p.lines p.marks p.listing (listed_filled e)

      go : (t : Bool) → Each Filled (cond t (runs_of ls (piece_at second_rule ps e)) (turned_runs (runs_of ls (piece_at second_rule ps e))))
      go true = runs
      go false = each_turn (reverse (runs_of ls (piece_at second_rule ps e))) (each_back (runs_of ls (piece_at second_rule ps e)) runs)

  flat_on : (e : ℕ) → flatten (on e) ≡ way_on ls second_rule ps (left_passes ls places s) (left_sound ls places s) e
  flat_on e = go (eqb (side_of e) 0)
    where
      p : Piece
      p = piece_at second_rule ps e

      flat : flatten (runs_of ls (piece_at second_rule ps e)) ≡ way ls (piece_at second_rule ps e)
      flat = flatten_runs ls p.lines p.marks p.listing

      go : (t : Bool) → flatten (cond t (runs_of ls (piece_at second_rule ps e)) (turned_runs (runs_of ls (piece_at second_rule ps e))))
          ≡ cond t (way ls (piece_at second_rule ps e)) (reverse (way ls (piece_at second_rule ps e)))
      go true = flat
      go false = flatten_turned (runs_of ls (piece_at second_rule ps e)) ∙ ap (λ (l : List Point). reverse l) flat

  seen_pieces : (e : ℕ) → piece_of e < length ps
      → key_of (cells_of s) 0 (first_of (run second_rule ps e)) ≡ key_of (cells_of s) 0 (first_of (first_run (on e)))
  seen_pieces e h =
      let rs = on e in
      let r = run second_rule ps e in
      let n : 0 < length rs = on_filled ls m second_rule ps (left_passes ls places s) (left_sound ls places s) e h in
      let f : 0 < length (first_run rs) = first_filled rs (on_all_filled e) n in
      let lays : laid_values r ≡ laid_values (flatten rs) = run_lays ls second_rule ps (left_passes ls places s) (left_sound ls places s) e ∙ ap laid_values (sym (flat_on e)) in
      let g : 0 < length (flatten rs) = flat_filled rs n f in
      let b : 0 < length r = still_filled r (flatten rs) lays g in
      let v : value (first_of (first_run rs)) ≡ value (first_of r) = ap value (sym (first_flat rs n f)) ∙ sym (first_value r (flatten rs) b g lays) in
      sym
      (value_key s.tolerance s.origin_x s.origin_y (first_of (first_run rs)) (first_of r)
      (each_get_d Number r 0 (point 0 0) (run_numbers ls second_rule ps (left_passes ls places s) (left_sound ls places s) e) b) v)

  two_meets : Each (λ p. meets_all m (runs_of ls p) ≡ true) (round_two s ps)
  unfolding round_two
  two_meets = go (lt nought s.tolerance) refl
    where
      go : (t : Bool) → lt nought s.tolerance ≡ t → Each (λ p. meets_all m (runs_of ls p) ≡ true) (round_two s ps)
      go true e =
          rw (e, round_two)
          (join_meets ls m second_rule ps (left_passes ls places s) (left_sound ls places s) (by_cells e) left_meets seen_pieces
          (λ y. omega (arith, join_count second_rule ps y, left_once ls places s y)))
      go false e = rw (e, round_two) left_meets

  -- THE LINES OF EVERY CHAIN MEET, AS THEY ARE PASSED
  pub chains_meet : Each (λ p. meets_all m (runs_of ls p) ≡ true) (chains s ls)
  unfolding chains round_one
  chains_meet = each_append two_meets (lines_meet ls m (pieces false 0 ls) (alones_lines ls false 0 ls (from_first ls places)))

  -- ---- the lines of a chain of two or more are plain

  two_count : (k : ℕ) → count k (lines_of (round_two s ps)) ≡ count k (lines_of lines)
  unfolding round_two
  two_count k = go (lt nought s.tolerance) refl
    where
      go : (t : Bool) → lt nought s.tolerance ≡ t → count k (lines_of (round_two s ps)) ≡ count k (lines_of lines)
      go true e = rw (e, round_two) (join_count second_rule ps k ∙ join_count first_rule lines k)
      go false e = rw (e, round_two) (join_count first_rule lines k)

  abbrev pub AllPlain : Piece → Type 0
  AllPlain p = 2 ≤ length p.lines → (k : ℕ) → 0 < count k p.lines → plain (get_or ls k no_line) ≡ true

  two_plain : Each AllPlain (round_two s ps)
  two_plain =
      each_of AllPlain (round_two s ps) nothing
      (λ i h two k c. joined_plain ls 0 ls (from_first ls places) k (omega (arith, part_of_lem k (round_two s ps) i c, two_count k)))

  pub chains_plain : Each AllPlain (chains s ls)
  unfolding chains round_one
  chains_plain =
      each_append two_plain
      (each_weak (λ p. length p.lines ≡ 1) AllPlain (pieces false 0 ls) (λ p e two. absurd (omega arith)) (pieces_lone false 0 ls))
