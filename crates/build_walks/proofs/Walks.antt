-- The walks of a call's lines: what each step asks of the one before, and what stands at the end. Grouping the ends of the walks leaves the walks as they are.
use Prim.Native.Nat.{ℕ, ◌+◌, ◌-◌, ◌*◌, ◌≤◌, ◌<◌}
use mathlib.Core.Path.{◌≡◌, sym, ap, ◌∙◌, subst}
use mathlib.Core.Bool.{Bool, true, false, ◌||◌, ◌&&◌}
use mathlib.Core.List.{List}
use native.Mathlib.Omega.{arith}
use lib.Dec.{ltb, eqb}
use lib.Ieee.{Float}
use lib.ListN.{length, get_or, drop, length-drop}
use borrow.Rule.Slice.PartMut.{mid_of}
use Rattle.rules.specs.declared.Settings.{Settings}
use Rattle.rules.specs.Answers.{Exact}
use Rattle.rules.specs.Plane.{points}
use Rattle.rules.specs.Chaining.{Piece, Rule, rule_of}
use Rattle.rules.specs.Layout.{Lines, lines_in}
use Rattle.rules.specs.Refusals.{limit_bad}
use Rattle.build_refusals.specs.Tests.{switch_bad}
use Rattle.build_lines.specs.Taken.{plain_of, Taken}
use Rattle.chain_pieces.specs.Map.{join_block, node_block, taken_block}
use Rattle.chain_grouping.specs.Group.{GroupingRoom, Nodes}
use Rattle.chain_keys.specs.Tells.{OneGroup}
use Rattle.point_slices.proofs.Laws.{mid_rest}
use Rattle.chain_joins.proofs.Regions.{slice_same}
use Rattle.chain_nodes.proofs.Frames.{held_same}
use Rattle.chain_walks.specs.Map.{entry_block, length_block}
use Rattle.chain_merging.proofs.Joined.{few_walks}
use Rattle.chain_round.specs.Round.{RoundWalked, Walkable}
use Rattle.chain_meeting.specs.Map.{meeting_block}
use Rattle.chain_meeting.specs.Meeting.{Meetable, Met}
use Rattle.chain_apart.specs.Apart.{apart_to}
use Rattle.build_walks.specs.Walking.{LinesWalkable, LinesWalked}
use Rattle.build_walks.proofs.Good.{good_start, good_grouped}

-- a switch that is on has a fair limit
pub limit_fair : (switch : ℕ) (limit : Float) → switch_bad switch limit ≡ false → eqb switch 1 ≡ true → limit_bad limit ≡ false
unfolding switch_bad
limit_fair switch limit h e = go (ltb 1 switch) (limit_bad limit) (rw e at h)
  where
    go : (a b : Bool) → (a || (true && b)) ≡ false → b ≡ false
    go true b q = let z : ◌≡◌ {A = ℕ} 0 1 = cc in absurd (omega arith)
    go false b q = q

-- walks that stand in a part of the workspace which stays
walked_kept : {width : ℕ} {w' w : List ℕ} {n m r : ℕ} {rule : Rule} {counts : List ℕ} {ps : List Piece} {input spare : List ℕ} → m ≡ length ps → length w' ≡ length w
    → ((j : ℕ) → j < n * node_block → get_or w' j 0 ≡ get_or w j 0)
    → RoundWalked width w n m r rule counts ps input spare → RoundWalked width w' n m r rule counts ps input spare
walked_kept {width} {w'} {w} {n} {m} {r} {rule} {counts} {ps} {input} {spare} number size kept W =
    let few : r ≤ m = omega (arith, W.number, few_walks rule ps m (sym number)) in
    let all : m ≤ n = omega (arith, number, W.held.few) in
    record {
      room = omega (arith, W.room);
      held = held_same width w' w (n * taken_block) n input spare counts ps size (λ j a b. kept j (omega arith)) W.held;
      number = W.number;
      entered = slice_same w' w (n * join_block + m * entry_block) m size (omega (arith, W.room)) (λ j a b. kept j (omega arith)) ∙ W.entered;
      measured = slice_same w' w (n * join_block + m * length_block) r size (omega (arith, W.room)) (λ j a b. kept j (omega arith)) ∙ W.measured;
    }

module _ {width n : ℕ} {l : Lines} {s : Settings} {w₀ : List ℕ} (y : LinesWalkable width n l s w₀) where
  abbrev plain : List Piece
  plain = plain_of width l

  pub grouped : OneGroup l.groups (plain_of width l)
  grouped =
      good_grouped (points width l.coordinates) l.counts l.groups l.kinds plain (y.groups_long ∙ sym y.counts_long) (good_start (lines_in width l))

  module _ {w₁ : List ℕ} {m : ℕ} (T : Taken w₁ w₀ n l.counts l.kinds m) where
    pub taken_are : m ≡ length (plain_of width l)
    taken_are = T.number width l.coordinates l.groups y.adds

    abbrev pub walk_asks : Walkable width w₁ n m s l.groups l.coordinates l.coordinates
    walk_asks =
        record {
          rounding = record {
            counts = l.counts;
            ps = plain_of width l;
            two = y.adds.two;
            few = y.few;
            number = taken_are;
            room = omega (arith, T.size, y.room);
            held = T.held width l.coordinates l.groups l.coordinates y.adds;
            grouped = grouped;
          };
          fair = limit_fair s.switch s.limit y.switched;
        }

    module _ {w₂ : List ℕ} {r : ℕ} (W : RoundWalked width w₂ n m r (rule_of Exact s) l.counts (plain_of width l) l.coordinates l.coordinates) where
      abbrev pub meet_asks : Meetable width w₂ n m r l.groups l.coordinates
      meet_asks =
          record {
            rule = rule_of Exact s;
            counts = l.counts;
            ps = plain_of width l;
            two = y.adds.two;
            few = y.few;
            number = taken_are;
            grouped = grouped;
            walked = W;
          }

      pub walks_few : r * 2 ≤ n * 2
      walks_few = omega (arith, W.number, few_walks (rule_of Exact s) plain m (sym taken_are), taken_are, W.held.few)

      module _ {w₃ : List ℕ} (M : Met w₃ w₂ n r s (rule_of Exact s) (plain_of width l)) where
        room : GroupingRoom (drop (n * meeting_block) w₃) (r * 2)
        room = record {
          few = omega (arith, walks_few, y.few);
          fits = omega (arith, walks_few, M.size, W.room, length-drop (n * meeting_block) w₃);
        }

        pub apart_asks : GroupingRoom (mid_of (n * meeting_block) (length w₃ - n * meeting_block) w₃) (r * 2)
            × Nodes (mid_of (n * meeting_block) (length w₃ - n * meeting_block) w₃) (mid_of (n * meeting_block) (length w₃ - n * meeting_block) w₃) (r * 2)
        apart_asks = subst (λ (v : List ℕ). GroupingRoom v (r * 2) × Nodes v v (r * 2)) (sym (mid_rest w₃ (n * meeting_block))) (room, M.nodes)

        pub lines_walked : {apart : Bool} → apart ≡ apart_to (eqb s.switch 1) (mid_of (n * meeting_block) (length w₃ - n * meeting_block) w₃) (r * 2) (r * 2)
            → LinesWalked width n l s w₃ m r apart
        lines_walked e = record {
          lines_are = taken_are;
          walked = walked_kept taken_are M.size M.kept W;
          before = w₂;
          met = M;
          apart_is = e ∙ ap (λ (v : List ℕ). apart_to (eqb s.switch 1) v (r * 2) (r * 2)) (mid_rest w₃ (n * meeting_block));
        }
