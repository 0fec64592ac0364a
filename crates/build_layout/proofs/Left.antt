-- The pieces that the rounds leave, beside the lines that pass through: together they are the chains, so that what is known of all chains bounds both.
use Prim.Native.Nat.{ℕ, suc, ◌+◌, ◌≤◌}
use mathlib.Core.Path.{◌≡◌, refl, ap, ◌∙◌}
use mathlib.Core.Bool.{Bool, true, false, beq}
use mathlib.Core.List.{List, [], ◌∷◌, ◌++◌, map, flat_map, map-append, append-nil}
use native.Mathlib.Omega.{arith}
use lib.ListN.{length, length-append}
use Rattle.rules.specs.declared.Settings.{Settings}
use Rattle.rules.specs.Lists.{count, total}
use Rattle.rules.specs.Plane.{Point, points, flat}
use Rattle.rules.specs.Chaining.{Piece, Line, plain, pieces, chains}
use Rattle.rules.specs.Layout.{lines, copy, laid_out, build, lent}
use Rattle.chain_laws.proofs.Counts.{count_append}
use Rattle.chain_laws.proofs.Totals.{total_append}
use Rattle.chain_laws.proofs.Drawn.{Low}
use Rattle.chain_laws.proofs.Lines.{flat_map_append, pieces_take, pieces_leave, no_other_line}
use Rattle.chain_laws.proofs.Room.{lines_length, lines_size, size, chains_size, members_fit, chains_fit}
use Rattle.chain_pieces.specs.Held.{lines_of}
use Rattle.build_lines.specs.Taken.{plain_of}
use Rattle.build_lines.proofs.Passing.{Lone, pieces_lone, lone_lines, lone_copies}
use Rattle.build_layout.specs.Laying.{passing_of, left_of}
use Rattle.build_layout.proofs.Small.{members_low}

-- a line is plain, or it passes through
pub pieces_both : (k : ℕ) (ls : List Line) → length (pieces true k ls) + length (pieces false k ls) ≡ length ls
unfolding pieces
pieces_both k [] = refl
pieces_both k (l ∷ ls) = go (plain l) refl (pieces_both (suc k) ls)
  where
    go : (t : Bool) → plain l ≡ t → length (pieces true (suc k) ls) + length (pieces false (suc k) ls) ≡ length ls
        → length (pieces true k (l ∷ ls)) + length (pieces false k (l ∷ ls)) ≡ length (l ∷ ls)
    go true e ih = rw (pieces_take true k l ls (ap (beq true) e), pieces_leave false k l ls (ap (beq false) e)) (omega arith)
    go false e ih = rw (pieces_leave true k l ls (ap (beq true) e), pieces_take false k l ls (ap (beq false) e)) (omega arith)

module _ (width : ℕ) (s : Settings) (coordinates counts groups kinds : List ℕ) where
  abbrev ls : List Line
  ls = lines (points width coordinates) counts groups kinds

  abbrev qs : List Piece
  qs = left_of width s (lent coordinates counts groups kinds)

  abbrev rest : List Piece
  rest = passing_of width (lent coordinates counts groups kinds)

  both : chains s ls ≡ qs ++ rest
  unfolding chains
  both = refl

  many : length ls ≡ length counts
  many = lines_length (points width coordinates) counts groups kinds

  pub pieces_all : length (left_of width s (lent coordinates counts groups kinds)) + length (passing_of width (lent coordinates counts groups kinds)) ≤ length counts
  pieces_all = omega (arith, ap length both, length-append qs rest, chains_fit s ls, many)

  lines_both : lines_of (chains s ls) ≡ lines_of qs ++ lines_of rest
  lines_both = ap lines_of both ∙ flat_map_append (λ (p : Piece). p.lines) qs rest

  pub members_all : length (lines_of (left_of width s (lent coordinates counts groups kinds))) + length (passing_of width (lent coordinates counts groups kinds)) ≡ length counts
  members_all =
      omega (
        arith,
        ap length lines_both,
        length-append (lines_of qs) (lines_of rest),
        lone_lines rest (pieces_lone false 0 ls),
        members_fit s ls,
        many,
      )

  -- there are as many members as lines went in
  pub left_listed : length (lines_of (left_of width s (lent coordinates counts groups kinds))) ≡ length (plain_of width (lent coordinates counts groups kinds))
  left_listed = omega (arith, members_all, pieces_both 0 ls, many)

  pub left_low : Low (length counts) (lines_of (left_of width s (lent coordinates counts groups kinds)))
  left_low =
      members_low (length counts) (lines_of qs)
      (λ x b. omega (arith, no_other_line s ls x (omega (arith, many)), ap (count x) lines_both, count_append x (lines_of qs) (lines_of rest)))

  pub left_size : total (map size (left_of width s (lent coordinates counts groups kinds))) ≤ total counts
  left_size =
      omega (
        arith,
        ap (λ (l : List Piece). total (map size l)) both,
        ap total (map-append size qs rest),
        total_append (map size qs) (map size rest),
        chains_size s ls,
        lines_size (points width coordinates) counts groups kinds,
      )

-- ---- what is merged

-- pieces of one line add nothing to it
pub merged_lone : (width : ℕ) (counts : List ℕ) (ps qs : List Piece) → Lone qs → (laid_out width counts (ps ++ qs)).merged ≡ (laid_out width counts ps).merged
unfolding laid_out
merged_lone width counts ps qs a =
    ap (flat width) (flat_map_append copy ps qs ∙ ap (λ (l : List Point). flat_map copy ps ++ l) (lone_copies qs a) ∙ append-nil (flat_map copy ps))

-- so that a call merges what its rounds leave
pub merged_left : (width : ℕ) (s : Settings) (coordinates counts groups kinds : List ℕ)
    → (build width s (lent coordinates counts groups kinds)).merged ≡ flat width (flat_map copy (left_of width s (lent coordinates counts groups kinds)))
unfolding build chains laid_out
merged_left width s coordinates counts groups kinds =
    merged_lone width counts (left_of width s (lent coordinates counts groups kinds)) (passing_of width (lent coordinates counts groups kinds))
    (pieces_lone false 0 (lines (points width coordinates) counts groups kinds))
