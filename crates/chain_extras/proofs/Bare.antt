-- Extras left out: the chains of lines without their extras are the chains without theirs.
-- Keys, directions and equality look at x and y alone, so that every end has the partner that it had, and the walks are the same ones; merging takes
-- and drops the same points.
use Prim.Native.Nat.{ℕ, suc, ◌+◌, ◌*◌, ◌%◌}
use mathlib.Core.Path.{◌≡◌, refl, sym, ap, ap₂, ◌∙◌, fun_ext}
use mathlib.Core.Bool.{Bool, true, false, not, ◌&&◌, cond, beq}
use mathlib.Core.List.{List, [], ◌∷◌, ◌++◌, map, flat_map, reverse, reverse_aux, map-append}
use mathlib.Core.Option.{Option, none, some}
use lib.Dec.{eqb, leb}
use lib.Ieee.{Float, lt}
use lib.ListN.{length, get_or, length-map, get_or-map}
use Rattle.std.specs.Prelude.{Some}
use Rattle.rules.specs.Answers.{Direction}
use Rattle.rules.specs.Answers.{Absent}
use Rattle.rules.specs.declared.Settings.{Settings}
use Rattle.rules.specs.Answers.{Grid}
use Rattle.rules.specs.Answers.{Exact, Cells}
use Rattle.rules.specs.Lists.{keep, first, upto}
use Rattle.rules.specs.Plane.{Point, point, equal, same_key, exact_key, cell_key, key_of, straight, direction_of, nought}
use Rattle.rules.specs.Selecting.{End, Pair, select}
use Rattle.rules.specs.Walking.{piece_of, side_of, walks}
use Rattle.rules.specs.Chaining.{cells_of, Piece, nothing, Rule, mate, lay, piece_at, run, key_at, node, end_at, chosen, joined, partner, merged, merge, join, Line, plain, alone, pieces, rule_of, round_one, round_two, chains, passed, turned}
use Rattle.chain_laws.proofs.Lines.{map_map}
use Rattle.chain_extras.specs.Bare.{bare, bare_line, bare_piece}

-- ---- points

abbrev bare_of : Option Point → Option Point
bare_of none = none
bare_of (some p) = some (bare p)

pub map_turned : {A B : Type 0} (f : A → B) (l r : List A) → map f (reverse_aux l r) ≡ reverse_aux (map f l) (map f r)
map_turned f [] r = refl
map_turned f (a ∷ l) r = map_turned f l (a ∷ r)

pub key_bare : (grid : Grid) (g : ℕ) (p : Point) → key_of grid g (bare p) ≡ key_of grid g p
unfolding key_of exact_key cell_key
key_bare Exact g p = refl
key_bare (Some m) g p = refl

first_bare : (p : Point) (l : List Point) → first (λ q. not (equal q (bare p))) (map bare l) ≡ bare_of (first (λ q. not (equal q p)) l)
unfolding first equal
first_bare p [] = refl
first_bare p (q ∷ l) = go (not (equal q p)) (first_bare p l)
  where
    go : (t : Bool) → first (λ q. not (equal q (bare p))) (map bare l) ≡ bare_of (first (λ q. not (equal q p)) l)
        → elim t [ true ↦ some (bare q) | false ↦ first (λ q. not (equal q (bare p))) (map bare l) ]
        ≡ bare_of (elim t [ true ↦ some q | false ↦ first (λ q. not (equal q p)) l ])
    go true ih = refl
    go false ih = ih

pub direction_bare : (l : List Point) → direction_of (map bare l) ≡ direction_of l
unfolding direction_of straight
direction_bare [] = refl
direction_bare (p ∷ l) =
    ap (λ (o : Option Point). elim o [ none ↦ Absent | some q ↦ straight (bare p) q ]) (first_bare p l) ∙ go (first (λ q. not (equal q p)) l)
  where
    go : (o : Option Point)
        → ◌≡◌ {A = Direction} (elim (bare_of o) [ none ↦ Absent | some q ↦ straight (bare p) q ]) (elim o [ none ↦ Absent | some q ↦ straight p q ])
    go none = refl
    go (some q) = refl

pub lay_bare : (o : Option Point) (l : List Point) → lay (bare_of o) (map bare l) ≡ map bare (lay o l)
unfolding lay equal
lay_bare none [] = refl
lay_bare (some q) [] = refl
lay_bare none (p ∷ l) = ap {B = List Point} (λ (r : List Point). bare p ∷ r) (lay_bare (some p) l)
lay_bare (some q) (p ∷ l) = go (equal q p) (lay_bare (some q) l) (lay_bare (some p) l)
  where
    go : (t : Bool) → lay (some (bare q)) (map bare l) ≡ map bare (lay (some q) l) → lay (some (bare p)) (map bare l) ≡ map bare (lay (some p) l)
        → elim t [ true ↦ lay (some (bare q)) (map bare l) | false ↦ bare p ∷ lay (some (bare p)) (map bare l) ]
        ≡ map bare (elim t [ true ↦ lay (some q) l | false ↦ p ∷ lay (some p) l ])
    go true a b = a
    go false a b = ap {B = List Point} (λ (r : List Point). bare p ∷ r) b

-- ---- a round

module _ (rule : Rule) (ps : List Piece) where
  abbrev bs : List Piece
  bs = map bare_piece ps

  piece_bare : (e : ℕ) → piece_at rule bs e ≡ bare_piece (piece_at rule ps e)
  unfolding piece_at
  piece_bare e = get_or-map bare_piece ps (piece_of e) nothing

  run_bare : (e : ℕ) → run rule bs e ≡ map bare (run rule ps e)
  unfolding run
  run_bare e =
      ap (λ (p : Piece). cond (eqb (side_of e) 0) p.points (reverse p.points)) (piece_bare e) ∙ go (eqb (side_of e) 0)
    where
      go : (t : Bool) → cond t (map bare (piece_at rule ps e).points) (reverse (map bare (piece_at rule ps e).points))
          ≡ map bare (cond t (piece_at rule ps e).points (reverse (piece_at rule ps e).points))
      go true = refl
      go false = sym (map_turned bare (piece_at rule ps e).points [])

  end_key_bare : (e : ℕ) → key_at rule bs e ≡ key_at rule ps e
  unfolding key_at
  end_key_bare e =
      ap₂ (λ (p : Piece) (l : List Point). key_of rule.grid p.group (get_or l 0 (point 0 0))) (piece_bare e) (run_bare e)
      ∙ ap (key_of rule.grid (piece_at rule ps e).group) (get_or-map bare (run rule ps e) 0 (point 0 0))
      ∙ key_bare rule.grid (piece_at rule ps e).group (get_or (run rule ps e) 0 (point 0 0))

  node_bare : (e : ℕ) → node rule bs e ≡ node rule ps e
  unfolding node
  node_bare e =
      ap₂ (λ (t : ℕ → Bool) (n : ℕ). keep t (upto (2 * n)))
      (fun_ext λ f. ap₂ same_key (end_key_bare e) (end_key_bare f))
      (length-map ps bare_piece)

  end_bare : (e : ℕ) → end_at rule bs e ≡ end_at rule ps e
  unfolding end_at
  end_bare e = λ i. record { name = e; piece = piece_of e; direction = (ap direction_of (run_bare e) ∙ direction_bare (run rule ps e)) i }

  chosen_bare : (o : Option Float) (l : List ℕ) → chosen rule bs o l ≡ chosen rule ps o l
  unfolding chosen
  chosen_bare none l = refl
  chosen_bare (some limit) l = ap (λ (f : ℕ → End). select limit (map f l)) (fun_ext end_bare)

  joined_bare : (l : List ℕ) → joined rule bs l ≡ joined rule ps l
  unfolding joined
  joined_bare [] = refl
  joined_bare (a ∷ []) = refl
  joined_bare (a ∷ b ∷ []) = refl
  joined_bare (a ∷ b ∷ c ∷ l) = ap (λ (r : List Pair). map (λ p. (p.i, p.j)) r) (chosen_bare rule.limit (a ∷ b ∷ c ∷ l))

  -- every end has the partner that it had
  pub partner_bare : partner rule bs ≡ partner rule ps
  unfolding partner
  partner_bare = fun_ext λ e. ap (mate e) (joined_bare (node rule bs e) ∙ ap (joined rule ps) (node_bare e))

  runs_bare : (w : List ℕ) → flat_map (run rule bs) w ≡ map bare (flat_map (run rule ps) w)
  unfolding flat_map
  runs_bare [] = refl
  runs_bare (e ∷ w) = ap₂ ◌++◌ (run_bare e) (runs_bare w) ∙ sym (map-append bare (run rule ps e) (flat_map (run rule ps) w))

  merged_bare : (w : List ℕ) → merged rule bs w ≡ map bare (merged rule ps w)
  unfolding merged
  merged_bare [] = refl
  merged_bare (e ∷ []) = ap (λ (p : Piece). p.points) (piece_bare e)
  merged_bare (e ∷ f ∷ w) = ap (lay none) (runs_bare (e ∷ f ∷ w)) ∙ lay_bare none (flat_map (run rule ps) (e ∷ f ∷ w))

  merge_bare : (w : List ℕ) → merge rule bs w ≡ bare_piece (merge rule ps w)
  unfolding merge turned passed
  merge_bare w =
      λ i. record {
        lines = flat_map (λ e. (piece_bare e i).lines) w;
        marks = flat_map (λ e. map (λ mark. (mark + side_of e) % 2) (piece_bare e i).marks) w;
        listing = flat_map (λ e. cond (eqb (side_of e) 0) (piece_bare e i).listing (reverse (piece_bare e i).listing)) w;
        points = merged_bare w i;
        group = (piece_bare (get_or w 0 0) i).group;
      }

  pub join_bare : join rule bs ≡ map bare_piece (join rule ps)
  unfolding join
  join_bare =
      (λ i. map (λ w. merge_bare w i) (walks (partner_bare i) (length-map ps bare_piece i)))
      ∙ sym (map_map bare_piece (merge rule ps) (walks (partner rule ps) (length ps)))

-- ---- a call

plain_bare : (l : Line) → plain (bare_line l) ≡ plain l
unfolding plain
plain_bare l = ap (λ (n : ℕ). eqb l.kind 0 && leb 2 n) (length-map l.points bare)

pieces_bare : (want : Bool) (k : ℕ) (ls : List Line) → pieces want k (map bare_line ls) ≡ map bare_piece (pieces want k ls)
unfolding pieces alone
pieces_bare want k [] = refl
pieces_bare want k (l ∷ ls) =
    let rest = pieces want (suc k) (map bare_line ls) in
    ap (λ (t : Bool). elim (beq want t) [ true ↦ alone k (bare_line l) ∷ rest | false ↦ rest ]) (plain_bare l)
    ∙ go (beq want (plain l)) (pieces_bare want (suc k) ls)
  where
    go : (t : Bool) → pieces want (suc k) (map bare_line ls) ≡ map bare_piece (pieces want (suc k) ls)
        → elim t [ true ↦ alone k (bare_line l) ∷ pieces want (suc k) (map bare_line ls) | false ↦ pieces want (suc k) (map bare_line ls) ]
        ≡ map bare_piece (elim t [ true ↦ alone k l ∷ pieces want (suc k) ls | false ↦ pieces want (suc k) ls ])
    go true ih = ap {B = List Piece} (λ (r : List Piece). alone k (bare_line l) ∷ r) ih
    go false ih = ih

two_bare : (s : Settings) (ps : List Piece) → round_two s (map bare_piece ps) ≡ map bare_piece (round_two s ps)
unfolding round_two
two_bare s ps = go (lt nought s.tolerance)
  where
    go : (t : Bool)
        → elim t [ true ↦ join (rule_of (cells_of s) s) (map bare_piece ps) | false ↦ map bare_piece ps ]
        ≡ map bare_piece (elim t [ true ↦ join (rule_of (cells_of s) s) ps | false ↦ ps ])
    go true = join_bare (rule_of (cells_of s) s) ps
    go false = refl

-- X AND Y ARE JOINED AS BEFORE: the chains of lines without their extras are the chains without theirs
pub chains_bare : (s : Settings) (ls : List Line) → chains s (map bare_line ls) ≡ map bare_piece (chains s ls)
unfolding chains round_one
chains_bare s ls =
    ap₂ ◌++◌
    (ap (λ (ps : List Piece). round_two s (join (rule_of Exact s) ps)) (pieces_bare true 0 ls)
    ∙ ap (round_two s) (join_bare (rule_of Exact s) (pieces true 0 ls))
    ∙ two_bare s (join (rule_of Exact s) (pieces true 0 ls)))
    (pieces_bare false 0 ls)
    ∙ sym (map-append bare_piece (round_two s (join (rule_of Exact s) (pieces true 0 ls))) (pieces false 0 ls))

-- and so lines that differ in their extras alone have chains that do
pub chains_alike : (s : Settings) (ls ms : List Line) → map bare_line ls ≡ map bare_line ms → map bare_piece (chains s ls) ≡ map bare_piece (chains s ms)
chains_alike s ls ms h = sym (chains_bare s ls) ∙ ap (chains s) h ∙ chains_bare s ms
