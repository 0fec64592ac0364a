-- The walks of the pieces' partners are walks as `emit_all` asks for, and what comes out is the book's `join`: every piece is entered once, so the lines
-- are those that went in, and the points no more.
use Prim.Native.Nat.{ℕ, ◌+◌, ◌*◌, ◌≤◌, ◌<◌}
use mathlib.Core.Path.{◌≡◌, refl, sym, ap, ◌∙◌, subst}
use mathlib.Core.Bool.{Bool, true, false}
use mathlib.Core.List.{List, [], map, flatten}
use native.Mathlib.Omega.{arith}
use lib.Dec.{ltb}
use lib.ListN.{length, get_or, length-map, get_or-map}
use lib.Seq.{slice}
use borrow.Author.Tests.{ltb-true, ltb-false}
use Rattle.rules.specs.Lists.{count, total}
use Rattle.rules.specs.Walking.{piece_of, walks}
use Rattle.rules.specs.Chaining.{Piece, Rule, merge, join, partner}
use Rattle.chain_laws.specs.Joins.{Joins}
use Rattle.chain_laws.proofs.Counts.{each_get_d, count_at}
use Rattle.chain_laws.proofs.Totals.{same_length}
use Rattle.chain_laws.proofs.Partners.{partner_joins}
use Rattle.chain_laws.proofs.Walks.{no_other, walks_length, walks_few, walks_filled}
use Rattle.chain_laws.proofs.Lines.{along, spread, join_count}
use Rattle.chain_laws.proofs.Room.{size}
use Rattle.chain_pieces.specs.Held.{lines_of, Held}
use Rattle.chain_merging.specs.Emit.{points_in, Walks}
use Rattle.chain_merging.proofs.Emitting.{points_all}
use Rattle.chain_pieces.specs.Map.{join_block}

module _ (rule : Rule) (ps : List Piece) (m : ℕ) (pieces_are : length ps ≡ m) where
  abbrev ws : List (List ℕ)
  ws = walks (partner rule ps) m

  joins : Joins m (partner rule ps)
  joins = subst (λ (k : ℕ). Joins k (partner rule ps)) pieces_are (partner_joins rule ps)

  pub all_entered : length (flatten (walks (partner rule ps) m)) ≡ m
  all_entered = walks_length m (partner rule ps) joins

  pub few_walks : length (walks (partner rule ps) m) ≤ m
  few_walks = walks_few m (partner rule ps) joins

  pub none_empty : (j : ℕ) → j < length (walks (partner rule ps) m) → 0 < length (get_or (walks (partner rule ps) m) j [])
  none_empty j h = each_get_d (λ w. 0 < length w) ws j [] (walks_filled m (partner rule ps) joins) h

  pub all_pieces : (k : ℕ) → k < m → piece_of (get_or (flatten (walks (partner rule ps) m)) k 0) < length ps
  all_pieces k h = go (ltb q m) refl
    where
      q : ℕ
      q = piece_of (get_or (flatten ws) k 0)

      named : get_or (map piece_of (flatten ws)) k 0 ≡ q
      named = get_or-map piece_of (flatten ws) k 0

      there : 0 < count q (map piece_of (flatten ws))
      there =
          subst (λ (x : ℕ). 0 < count x (map piece_of (flatten ws))) named
          (count_at (map piece_of (flatten ws)) k (omega (arith, length-map (flatten ws) piece_of, all_entered)))

      go : (t : Bool) → ltb q m ≡ t → q < length ps
      go true e = omega (arith, ltb-true q m e, pieces_are)
      go false e = absurd (omega (arith, there, no_other m (partner rule ps) joins q (ltb-false q m e)))

  -- THE PIECES THAT COME OUT ARE JOINED
  pub joined_are : map (merge rule ps) (walks (partner rule ps) m) ≡ join rule ps
  unfolding join
  joined_are = ap (λ (k : ℕ). map (merge rule ps) (walks (partner rule ps) k)) (sym pieces_are)

  pub same_lines : length (lines_of (map (merge rule ps) (walks (partner rule ps) m))) ≡ length (lines_of ps)
  same_lines = ap (λ (l : List Piece). length (lines_of l)) joined_are ∙ same_length (lines_of (join rule ps)) (lines_of ps) (join_count rule ps)

  pub same_points : points_in rule ps (flatten (walks (partner rule ps) m)) ≡ total (map (λ p. length p.points) ps)
  same_points =
      sym (points_all rule ps ws)
      ∙ ap (λ (k : ℕ). total (map (along rule ps size) (walks (partner rule ps) k))) (sym pieces_are)
      ∙ spread rule ps size

module _ (width : ℕ) (rule : Rule) (ps : List Piece) (counts w : List ℕ) (n old m entries lengths r : ℕ) (input spare merged : List ℕ)
    (pieces_are : length ps ≡ m)
    (two : 2 ≤ width)
    (held : Held width w old n input spare counts ps)
    (front : n * join_block ≤ old)
    (number : r ≡ length (walks (partner rule ps) m))
    (entered : slice entries (entries + m) w ≡ flatten (walks (partner rule ps) m))
    (entries_in : (n * join_block ≤ entries) × (entries + m ≤ length w))
    (measured : slice lengths (lengths + r) w ≡ map length (walks (partner rule ps) m))
    (lengths_in : (n * join_block ≤ lengths) × (lengths + r ≤ length w))
    (fits : total (map (λ p. length p.points) ps) * width ≤ length merged)
  where
    pub listed_fit : length (lines_of (map (merge rule ps) (walks (partner rule ps) m))) ≤ n
    listed_fit = omega (arith, same_lines rule ps m pieces_are, held.listed)

    pub points_fit : points_in rule ps (flatten (walks (partner rule ps) m)) * width ≤ length merged
    points_fit = omega (arith, ap (λ (i : ℕ). i * width) (same_points rule ps m pieces_are), fits)

    pub few : r ≤ n
    few = omega (arith, number, few_walks rule ps m pieces_are, held.few, pieces_are)

    abbrev pub walks_held : Walks width w n old m entries lengths r input spare merged
    walks_held =
        record {
          rule = rule;
          counts = counts;
          ps = ps;
          ws = walks (partner rule ps) m;
          held = held;
          two = two;
          front = front;
          all = all_entered rule ps m pieces_are;
          number = sym number;
          few = few;
          entered = entered;
          entries_in = entries_in;
          measured = measured;
          lengths_in = lengths_in;
          filled = λ j h. none_empty rule ps m pieces_are j (omega (arith, number));
          below = all_pieces rule ps m pieces_are;
          listed = listed_fit;
          fits = points_fit;
        }
