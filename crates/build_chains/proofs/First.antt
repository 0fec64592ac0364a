-- Round one of an accepted call: what each step asks, and that the pieces it leaves are the book's.
use Prim.Native.Nat.{ℕ, ◌+◌, ◌-◌, ◌*◌, ◌≤◌}
use mathlib.Core.Path.{◌≡◌, sym, ◌∙◌, subst}
use mathlib.Core.List.{List, [], map}
use native.Mathlib.Omega.{arith}
use native.Mathlib.Nat.{mul-le-mul_right}
use lib.ListN.{length, drop}
use borrow.Rule.Slice.PartMut.{mid_of, put_mid}
use Rattle.rules.specs.declared.Settings.{Settings}
use Rattle.rules.specs.Answers.{Exact}
use Rattle.rules.specs.Lists.{total}
use Rattle.rules.specs.Plane.{points}
use Rattle.rules.specs.Chaining.{Line, Piece, join, round_one, rule_of}
use Rattle.rules.specs.Layout.{Lines, lines_in}
use Rattle.rules.specs.Refusals.{line_room}
use Rattle.chain_laws.proofs.Room.{size, join_size, pieces_size, lines_size}
use Rattle.chain_pieces.specs.Held.{Held, Packed}
use Rattle.chain_pieces.specs.Map.{taken_block}
use Rattle.build_lines.specs.Taken.{plain_of, Taken}
use Rattle.chain_round.specs.Round as round
use Rattle.chain_round.specs.Round.{Rounded}
use Rattle.build_chains.specs.Building.{Buildable, Left}
use Rattle.build_chains.proofs.Parts.{mid_length, put_mid_lem, put_behind, put_length}
use Rattle.build_walks.proofs.Walks.{limit_fair}
use Rattle.build_walks.proofs.Good.{Good, good_start, good_join, good_grouped}

module _ {width : ℕ} {l : Lines} {s : Settings} {out w₀ : List ℕ} (J : Buildable width l s out w₀) where
  abbrev n : ℕ
  n = length l.counts

  abbrev ls : List Line
  ls = lines_in width l

  abbrev plain_pieces : List Piece
  plain_pieces = plain_of width l

  abbrev k₁ : ℕ
  k₁ = length l.counts * line_room - length l.counts * taken_block

  pub room₀ : n * taken_block + k₁ ≤ length w₀
  room₀ = let r = J.workspace_long in omega arith

  pub good₁ : Good ls plain_pieces
  good₁ = good_start ls

  pub good₂ : Good (lines_in width l) (round_one s (plain_of width l))
  unfolding round_one
  good₂ = good_join ls (rule_of Exact s) plain_pieces good₁

  pub plain_fits : total (map size plain_pieces) * width ≤ length l.coordinates
  plain_fits =
      let few : total (map size plain_pieces) ≤ total l.counts =
      omega (arith, pieces_size 0 ls, lines_size (points width l.coordinates) l.counts l.groups l.kinds) in
      omega (arith, mul-le-mul_right width few, J.adds.sum)

  -- the points of what round one leaves are no more than the lines'
  pub joined_fits : total (map size (round_one s (plain_of width l))) * width ≤ length l.coordinates
  unfolding round_one
  joined_fits = omega (arith, plain_fits, mul-le-mul_right width (join_size (rule_of Exact s) plain_pieces))

  module _ {sub₁ : List ℕ} {m : ℕ} (size₁ : length sub₁ ≡ length (mid_of (length l.counts * taken_block) (length l.counts * line_room - length l.counts * taken_block) w₀))
      (T : Taken sub₁ (mid_of (length l.counts * taken_block) (length l.counts * line_room - length l.counts * taken_block) w₀) (length l.counts) l.counts l.kinds m) where
    abbrev w₁ : List ℕ
    w₁ = put_mid (length l.counts * taken_block) (length l.counts * line_room - length l.counts * taken_block) w₀ sub₁

    pub room₁ : n * taken_block + k₁ ≤ length w₁
    room₁ = omega (arith, room₀, put_length w₀ sub₁ (n * taken_block) k₁ room₀ size₁)

    rest₁ : drop (n * line_room) w₁ ≡ drop (n * line_room) w₀
    rest₁ = put_behind w₀ sub₁ (n * taken_block) k₁ room₀ size₁ (n * line_room) (omega arith)

    pub part₁ : mid_of (n * taken_block) k₁ w₁ ≡ sub₁
    part₁ = put_mid_lem w₀ sub₁ (n * taken_block) k₁ room₀ size₁

    pub taken_are : m ≡ length (plain_of width l)
    taken_are = T.number width l.coordinates l.groups J.adds

    unfoldable pub one_asks : round.Joinable width (mid_of (length l.counts * taken_block) (length l.counts * line_room - length l.counts * taken_block) w₁)
        (length l.counts) m s l.groups l.coordinates l.coordinates out
    one_asks =
        record {
          walkable = record {
            rounding = record {
              counts = l.counts;
              ps = plain_of width l;
              two = J.adds.two;
              few = J.few;
              number = taken_are;
              room = omega (arith, mid_length w₁ [] (n * taken_block) k₁ room₁);
              held =
                  subst (λ (v : List ℕ). Held width v (n * taken_block) n l.coordinates l.coordinates l.counts plain_pieces) (sym part₁)
                  (T.held width l.coordinates l.groups l.coordinates J.adds);
              grouped = good_grouped (points width l.coordinates) l.counts l.groups l.kinds plain_pieces J.groups_long good₁;
            };
            fair = limit_fair s.switch s.limit J.switched;
          };
          fits = omega (arith, plain_fits, J.out_long);
        }

    module _ {r : ℕ} {sub₂ out' : List ℕ} (size₂ : length sub₂ ≡ length (mid_of (length l.counts * taken_block) (length l.counts * line_room - length l.counts * taken_block) w₁))
        (R : Rounded width sub₂ (mid_of (length l.counts * taken_block) (length l.counts * line_room - length l.counts * taken_block) w₁) (length l.counts) r l.coordinates out' out l.counts
        (join (rule_of Exact s) (plain_of width l))) where
      pub one_left : Left width (length l.counts) l.coordinates l.counts (round_one s (plain_of width l)) (length l.counts * taken_block) r out' out
          (put_mid (length l.counts * taken_block) (length l.counts * line_room - length l.counts * taken_block) w₁ sub₂) w₀
      unfolding round_one
      one_left =
          record {
            within = omega arith;
            held =
                subst (λ (v : List ℕ). Packed width v 0 n l.coordinates out' l.counts (join (rule_of Exact s) (plain_of width l)))
                (sym (put_mid_lem w₁ sub₂ (n * taken_block) k₁ room₁ size₂)) R.held;
            number_is = R.number;
            copied_is = R.merged_is;
            rest = put_behind w₁ sub₂ (n * taken_block) k₁ room₁ size₂ (n * line_room) (omega arith) ∙ rest₁;
          }
