-- Round two, of any pieces that stand where round one leaves its own: what it asks of the round's code, and what it leaves.
use Prim.Native.Nat.{ℕ, ◌+◌, ◌-◌, ◌*◌, ◌≤◌}
use mathlib.Core.Path.{◌≡◌, sym, ap, ◌∙◌, subst}
use mathlib.Core.List.{List, []}
use native.Mathlib.Omega.{arith}
use lib.ListN.{length, take, drop}
use borrow.Rule.Slice.PartMut.{mid_of, put_mid}
use Rattle.rules.specs.declared.Settings.{Settings}
use Rattle.rules.specs.Chaining.{Piece}
use Rattle.rules.specs.Refusals.{line_room}
use Rattle.point_slices.proofs.Laws.{slice_part}
use Rattle.chain_pieces.specs.Held.{Held, Packed}
use Rattle.chain_pieces.specs.Map.{taken_block}
use Rattle.chain_round.specs.Round as round
use Rattle.chain_round.specs.Round.{Rounded}
use Rattle.build_chains.specs.Building.{part_from, Left, Second}
use Rattle.build_chains.proofs.Parts.{mid_length, put_mid_lem, put_behind, held_shift}

module _ {width n m : ℕ} {s : Settings} {coordinates groups copies merged w₀ : List ℕ} (y : Second width n m s coordinates groups copies merged w₀) where
  abbrev k₂ : ℕ
  k₂ = n * line_room - 0

  pub room₂ : 0 + k₂ ≤ length w₀
  room₂ = let q = y.workspace_long in omega arith

  -- the pieces stand in their block of the round's part
  pub inner : drop (n * taken_block) (mid_of 0 k₂ w₀) ≡ part_from n (n * taken_block) w₀
  inner =
      let p : k₂ ≡ n * taken_block + (n * line_room - n * taken_block) = omega arith in
      ap (λ (i : ℕ). drop (n * taken_block) (take i w₀)) p ∙ slice_part (n * taken_block) (n * line_room - n * taken_block) w₀

  unfoldable pub two_asks : round.Joinable width (mid_of 0 (n * line_room - 0) w₀) n m s groups coordinates copies merged
  two_asks =
      record {
        walkable = record {
          rounding = record {
            counts = y.counts;
            ps = y.ps;
            two = y.two;
            few = y.few;
            number = y.number;
            room = omega (arith, mid_length w₀ [] 0 k₂ room₂);
            held =
                held_shift width (mid_of 0 k₂ w₀) (n * taken_block) n coordinates copies y.counts y.ps (omega (arith, mid_length w₀ [] 0 k₂ room₂))
                (subst (λ (v : List ℕ). Held width v 0 n coordinates copies y.counts y.ps) (sym inner) y.held);
            grouped = y.grouped;
          };
          fair = y.fair;
        };
        fits = y.fits;
      }

  -- whatever pieces come out
  module _ {r : ℕ} {sub merged' : List ℕ} {qs : List Piece} (size : length sub ≡ length (mid_of 0 (n * line_room - 0) w₀))
      (R : Rounded width sub (mid_of 0 (n * line_room - 0) w₀) n r coordinates merged' merged y.counts qs) where
    abbrev w₁ : List ℕ
    w₁ = put_mid 0 (n * line_room - 0) w₀ sub

    part : mid_of 0 k₂ w₁ ≡ sub
    part = put_mid_lem w₀ sub 0 k₂ room₂ size

    pub two_left : Left width n coordinates y.counts qs 0 r merged' merged w₁ w₀
    two_left =
        record {
          within = omega arith;
          held = subst (λ (v : List ℕ). Packed width v 0 n coordinates merged' y.counts qs) (sym part) R.held;
          number_is = R.number;
          copied_is = R.merged_is;
          rest = put_behind w₀ sub 0 k₂ room₂ size (n * line_room) (omega arith);
        }
