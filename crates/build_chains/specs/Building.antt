-- The rounds of an accepted call: what they ask, and what they leave. Points have a width, to which the counts add up.
use Rattle.std.specs.Prelude.{ℕ, ◌-◌, ◌*◌, ◌≤◌, ◌<◌, ◌≡◌, true, false, eqb, length, get_or, take, drop}
use mathlib.Core.List.{List, map, flat_map}
use Rattle.std.specs.Float.Ieee.{lt}
use Rattle.rules.specs.declared.Settings.{Settings}
use Rattle.rules.specs.Lists.{total}
use Rattle.rules.specs.Plane.{points, flat, nought}
use Rattle.rules.specs.Boxes.{box_room}
use Rattle.rules.specs.Chaining.{Piece, nothing}
use Rattle.rules.specs.Types.{width_of}
use Rattle.rules.specs.Layout.{Lines, lines_in, copy}
use Rattle.rules.specs.Refusals.{most_lines, line_room, limit_bad}
use Rattle.build_refusals.specs.Tests.{switch_bad}
use Rattle.rules.specs.Calls.{written}
use Rattle.chain_laws.proofs.Counts.{Each}
use Rattle.chain_laws.proofs.Sound.{Sound}
use Rattle.box_laws.specs.Sound.{Places}
use Rattle.chain_pieces.specs.Held.{lines_of, Held, Packed}
use Rattle.chain_pieces.specs.Map.{taken_block}
use Rattle.chain_keys.specs.Tells.{OneGroup}
use Rattle.chain_round.specs.Round.{RoundEmits, RoundEmitted}
use Rattle.build_lines.specs.Taken.{Adds}
use Rattle.build_layout.specs.Laying.{left_of}

-- ---- any pieces

-- the words of the workspace from `at` to its named length
abbrev pub part_from : ℕ → ℕ → List ℕ → List ℕ
part_from n at workspace = take (n * line_room - at) (drop at workspace)

-- the pieces ps of n lines stand in the workspace from `at` on, and what they copy in `out`; beyond its named length the workspace is as before
pub record Left (width n : ℕ) (coordinates counts : List ℕ) (ps : List Piece) (at number : ℕ) (out' out workspace' workspace : List ℕ) : Type 0 where
  pub within : at ≤ n * line_room
  pub held : Packed width (part_from n at workspace') 0 n coordinates out' counts ps
  pub number_is : number ≡ length ps
  pub copied_is : out' ≡ written (flat width (flat_map copy ps)) out
  pub rest : drop (n * line_room) workspace' ≡ drop (n * line_room) workspace

-- ---- round one

-- what is asked of a call's lines; what the pieces copy goes into `out`
pub record Buildable (width : ℕ) (l : Lines) (s : Settings) (out workspace : List ℕ) : Type 0 where
  pub few : length l.counts ≤ most_lines
  pub groups_long : length l.groups ≡ length l.counts
  pub kinds_long : length l.kinds ≡ length l.counts
  pub adds : Adds width l.counts l.coordinates
  pub switched : switch_bad s.switch s.limit ≡ false
  pub out_long : length l.coordinates ≤ length out
  pub workspace_long : length l.counts * line_room ≤ length workspace

-- ---- the walks of round one, before anything is laid

-- r walks of m lines stand in round one's part, and what is laid has room in `out`
pub record Layable (width n m r : ℕ) (coordinates out workspace : List ℕ) : Type 0 where
  pub few : n ≤ most_lines
  pub workspace_long : n * line_room ≤ length workspace
  pub emits : RoundEmits width (part_from n (n * taken_block) workspace) n m r coordinates coordinates out

-- the pieces qs stand in their stead; beyond its named length the workspace is as before
pub record WalksLaid (width n r : ℕ) (coordinates counts : List ℕ) (qs : List Piece) (out' out workspace' workspace : List ℕ) : Type 0 where
  pub emitted : RoundEmitted width (part_from n (n * taken_block) workspace') (part_from n (n * taken_block) workspace) n r coordinates out' out counts qs
  pub rest : drop (n * line_room) workspace' ≡ drop (n * line_room) workspace

-- ---- round two

-- what is asked of any m pieces that stand where round one leaves its own, with what they copy in `copies`
pub record Second (width n m : ℕ) (s : Settings) (coordinates groups copies merged workspace : List ℕ) : Type 0 where
  pub counts : List ℕ
  pub ps : List Piece
  pub two : 2 ≤ width
  pub few : n ≤ most_lines
  pub number : m ≡ length ps
  pub held : Held width (part_from n (n * taken_block) workspace) 0 n coordinates copies counts ps
  pub grouped : OneGroup groups ps
  pub fair : eqb s.switch 1 ≡ true → limit_bad s.limit ≡ false
  pub fits : total (map (λ (p : Piece). length p.points) ps) * width ≤ length merged
  pub workspace_long : n * line_room ≤ length workspace

-- ---- both

-- what is asked of a call's lines where the tolerance is above 0; round one may copy into `spare`
pub record Twice (width : ℕ) (l : Lines) (s : Settings) (merged spare workspace : List ℕ) : Type 0 where
  pub buildable : Buildable width l s merged workspace
  pub spare_long : length l.coordinates ≤ length spare
  pub above : lt nought s.tolerance ≡ true

-- ---- the boxes

-- chains ps of a call's lines, of type t, whose points are places and are read as they are written; and room for the boxes of all lines
pub record Boxing (t : ℕ) (l : Lines) (ps : List Piece) (boxes : List ℕ) : Type 0 where
  pub few : length l.counts ≤ most_lines
  pub adds : Adds (width_of t) l.counts l.coordinates
  pub fit : length ps ≤ length l.counts
  pub sound : Each (Sound (lines_in (width_of t) l)) ps
  pub read : (j : ℕ) → j < length ps → points (width_of t) (flat (width_of t) (get_or ps j nothing).points) ≡ (get_or ps j nothing).points
  pub placed : Each (λ (p : Piece). Places p.points) ps
  pub room : box_room (length l.counts) ≤ length boxes

-- ---- what is left

-- the pieces that the rounds leave of a call's lines; beyond the coordinates' length spare is as before
pub record AllLeft (width : ℕ) (l : Lines) (s : Settings) (at number lines : ℕ) (merged' merged spare' spare workspace' workspace : List ℕ) : Type 0 where
  pub left : Left width (length l.counts) l.coordinates l.counts (left_of width s l) at number merged' merged workspace' workspace
  pub lines_are : lines ≡ length (lines_of (left_of width s l))
  pub spare_rest : drop (length l.coordinates) spare' ≡ drop (length l.coordinates) spare
