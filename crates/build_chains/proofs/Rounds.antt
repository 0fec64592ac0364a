-- The rounds of an accepted call together: what round one leaves is what round two asks, and what is left is the book's.
use Prim.Native.Nat.{ℕ, ◌*◌, ◌≤◌}
use mathlib.Core.Path.{◌≡◌, refl, sym, ap, ◌∙◌, subst}
use mathlib.Core.Bool.{true, false}
use mathlib.Core.List.{List, flat_map}
use native.Mathlib.Omega.{arith}
use native.Mathlib.Nat.{mul-le-mul_right}
use lib.Ieee.{lt}
use lib.ListN.{length, drop}
use Rattle.rules.specs.declared.Settings.{Settings}
use Rattle.rules.specs.Plane.{points, flat, nought}
use Rattle.rules.specs.Chaining.{cells_of, Piece, join, round_one, round_two, rule_of}
use Rattle.rules.specs.Layout.{Lines, copy}
use Rattle.point_numbers.proofs.Points.{flat_length}
use Rattle.chain_laws.proofs.Room.{copies_size}
use Rattle.chain_pieces.specs.Held.{lines_of, Packed}
use Rattle.chain_pieces.proofs.Packed.{packed_held}
use Rattle.chain_pieces.specs.Map.{taken_block}
use Rattle.build_lines.specs.Taken.{plain_of}
use Rattle.build_layout.specs.Laying.{left_of}
use Rattle.build_layout.proofs.Left.{left_listed}
use Rattle.build_chains.specs.Building.{part_from, Buildable, Left, Second, AllLeft}
use Rattle.build_chains.proofs.Parts.{written_rest}
use Rattle.build_walks.proofs.Walks.{limit_fair}
use Rattle.build_walks.proofs.Good.{good_grouped}
use Rattle.build_chains.proofs.First.{good₂, joined_fits}

pub two_on : (s : Settings) (ps : List Piece) → lt nought s.tolerance ≡ true → join (rule_of (cells_of s) s) ps ≡ round_two s ps
unfolding round_two
two_on s ps e = rw (e, round_two)

pub two_off : (s : Settings) (ps : List Piece) → lt nought s.tolerance ≡ false → ps ≡ round_two s ps
unfolding round_two
two_off s ps e = rw (e, round_two)

module _ {width : ℕ} {l : Lines} {s : Settings} {merged w₀ : List ℕ} (J : Buildable width l s merged w₀) where
  abbrev n : ℕ
  n = length l.counts

  abbrev first : List Piece
  first = round_one s (plain_of width l)

  -- round one may copy into any room that is long enough
  pub into : {out : List ℕ} → length l.coordinates ≤ length out → Buildable width l s out w₀
  into h =
      record {
        few = J.few;
        groups_long = J.groups_long;
        kinds_long = J.kinds_long;
        adds = J.adds;
        switched = J.switched;
        out_long = h;
        workspace_long = J.workspace_long;
      }

  pub lines_are : {lines : ℕ} → lines ≡ length (plain_of width l) → lines ≡ length (lines_of (left_of width s l))
  lines_are e = e ∙ sym (left_listed width s l.coordinates l.counts l.groups l.kinds)

  -- what is copied is no more than the coordinates
  copied_fits : length (flat width (flat_map copy first)) ≤ length l.coordinates
  copied_fits = omega (arith, flat_length width (flat_map copy first), mul-le-mul_right width (copies_size first), joined_fits J)

  -- ---- without round two

  pub once_left : lt nought s.tolerance ≡ false → {at number lines : ℕ} {merged' spare w₁ : List ℕ}
      → Left width (length l.counts) l.coordinates l.counts (round_one s (plain_of width l)) at number merged' merged w₁ w₀
      → lines ≡ length (plain_of width l)
      → AllLeft width l s at number lines merged' merged spare spare w₁ w₀
  once_left off {at} {number} {lines} {merged'} {spare} {w₁} L e =
      record {
        left = subst (λ (ps : List Piece). Left width n l.coordinates l.counts ps at number merged' merged w₁ w₀) (two_off s first off) L;
        lines_are = lines_are e;
        spare_rest = refl;
      }

  -- ---- with round two

  module _ {spare spare' w₁ : List ℕ} {at number lines : ℕ} (room : length l.coordinates ≤ length spare)
      (size : length w₁ ≡ length w₀)
      (L : Left width (length l.counts) l.coordinates l.counts (round_one s (plain_of width l)) at number spare' spare w₁ w₀)
      (there : at ≡ length l.counts * taken_block)
      (e : lines ≡ length (plain_of width l)) where
    unfoldable pub second_asks : Second width (length l.counts) number s l.coordinates l.groups spare' merged w₁
    second_asks =
        record {
          counts = l.counts;
          ps = round_one s (plain_of width l);
          two = J.adds.two;
          few = J.few;
          number = L.number_is;
          held =
              packed_held width (part_from n (n * taken_block) w₁) 0 n l.coordinates spare' l.counts first
              (subst (λ (i : ℕ). Packed width (part_from n i w₁) 0 n l.coordinates spare' l.counts first) there L.held);
          grouped = good_grouped (points width l.coordinates) l.counts l.groups l.kinds first J.groups_long (good₂ J);
          fair = limit_fair s.switch s.limit J.switched;
          fits = omega (arith, joined_fits J, J.out_long);
          workspace_long = omega (arith, J.workspace_long, size);
        }

    pub twice_left : lt nought s.tolerance ≡ true → {r : ℕ} {merged' w₂ : List ℕ}
        → Left width (length l.counts) l.coordinates l.counts (join (rule_of (cells_of s) s) (round_one s (plain_of width l))) 0 r merged' merged w₂ w₁
        → AllLeft width l s 0 r lines merged' merged spare' spare w₂ w₀
    twice_left on {r} {merged'} {w₂} M =
        record {
          left = subst (λ (ps : List Piece). Left width n l.coordinates l.counts ps 0 r merged' merged w₂ w₀) (two_on s first on)
              (record {
                within = M.within;
                held = M.held;
                number_is = M.number_is;
                copied_is = M.copied_is;
                rest = M.rest ∙ L.rest;
              });
          lines_are = lines_are e;
          spare_rest = ap (drop (length l.coordinates)) L.copied_is ∙ written_rest (flat width (flat_map copy first)) spare (length l.coordinates) copied_fits room;
        }
