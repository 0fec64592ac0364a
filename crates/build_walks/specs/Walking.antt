-- The walks of a call's lines in round one, in its part w of the workspace: what is asked of the lines, and what stands then.
use Rattle.std.specs.Prelude.{ℕ, ◌*◌, ◌≤◌, ◌≡◌, Bool, false, List, eqb, length, drop}
use Rattle.rules.specs.declared.Settings.{Settings}
use Rattle.rules.specs.Answers.{Exact}
use Rattle.rules.specs.Chaining.{rule_of}
use Rattle.rules.specs.Layout.{Lines}
use Rattle.rules.specs.Refusals.{most_lines}
use Rattle.build_refusals.specs.Tests.{switch_bad}
use Rattle.build_lines.specs.Taken.{Adds, plain_of}
use Rattle.chain_pieces.specs.Map.{round_room}
use Rattle.chain_round.specs.Round.{RoundWalked}
use Rattle.chain_meeting.specs.Map.{meeting_block}
use Rattle.chain_meeting.specs.Meeting.{Met}
use Rattle.chain_apart.specs.Apart.{apart_to}

pub record LinesWalkable (width n : ℕ) (l : Lines) (s : Settings) (w : List ℕ) : Type 0 where
  pub few : n ≤ most_lines
  pub counts_long : length l.counts ≡ n
  pub groups_long : length l.groups ≡ n
  pub kinds_long : length l.kinds ≡ n
  pub adds : Adds width l.counts l.coordinates
  pub switched : switch_bad s.switch s.limit ≡ false
  pub room : n * round_room ≤ length w

-- the walks are the book's, their ends are grouped by cells, and `apart` tells whether round two can join none
pub record LinesWalked (width n : ℕ) (l : Lines) (s : Settings) (w' : List ℕ) (lines number : ℕ) (apart : Bool) : Type 0 where
  pub lines_are : lines ≡ length (plain_of width l)
  pub walked : RoundWalked width w' n lines number (rule_of Exact s) l.counts (plain_of width l) l.coordinates l.coordinates
  pub before : List ℕ
  pub met : Met w' before n number s (rule_of Exact s) (plain_of width l)
  pub apart_is : apart ≡ apart_to (eqb s.switch 1) (drop (n * meeting_block) w') (number * 2) (number * 2)
