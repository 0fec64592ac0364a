-- What passes refusal 19, as facts: lent pieces of which no clause holds.
use Rattle.std.specs.Prelude.{ℕ, ◌+◌, ◌*◌, ◌≤◌, ◌<◌, ◌≡◌, ◌≢◌, false, length, get_or, take}
use mathlib.Core.List.{map, flat_map}
use Rattle.rules.specs.Lists.{count, upto, total}
use Rattle.rules.specs.Plane.{points}
use Rattle.rules.specs.Layout.{Lines}
use Rattle.rules.specs.Refusals.{any_above, any_nowhere, piece_size}
use Rattle.rules.specs.Pieces.{LentPieces, plain_lines, first_member, member_count, source, first_point, point_count, members_at, marks_at, listing_at, named, numbers_at, leader}

module _ (w : ℕ) (l : Lines) (p : LentPieces) where
  -- one line's own place in the input
  pub record OwnPlace (q : ℕ) : Type 0 where
    pub input : source w l p q ≡ 0
    pub first : first_point w l p q ≡ total (take (leader w l p q) l.counts)
    pub count : point_count w l p q ≡ get_or l.counts (leader w l p q) 0

  -- the piece of record q: the numbers of its record
  pub record FrameFine (q : ℕ) : Type 0 where
    pub some_line : 0 < member_count w l p q
    pub some_point : 0 < point_count w l p q
    pub members_in : first_member w l p q + member_count w l p q ≤ length p.members
    pub marks_in : first_member w l p q + member_count w l p q ≤ length p.marks
    pub listing_in : first_member w l p q + member_count w l p q ≤ length p.listing
    pub points_in : (first_point w l p q + point_count w l p q) * w ≤ length (named w l p q)

  -- and what they name
  pub record PieceFine (q : ℕ) : Type 0 where
    pub frame : FrameFine q
    pub names : (y : ℕ) → count y (members_at w l p q) ≡ count y (listing_at w l p q)
    pub groups : (y : ℕ) → 0 < count y (members_at w l p q) → get_or l.groups y 0 ≡ get_or l.groups (leader w l p q) 0
    pub own : member_count w l p q ≡ 1 → OwnPlace q
    pub merged : member_count w l p q ≢ 1 → source w l p q ≡ 1
    pub marks : any_above 1 (marks_at w l p q) ≡ false
    pub places : any_nowhere (points w (numbers_at w l p q)) ≡ false

  -- all pieces
  pub record Passes : Type 0 where
    pub inside : p.number * piece_size ≤ length p.records
    pub fine : (q : ℕ) → q < p.number → PieceFine q
    pub members : (y : ℕ) → count y (flat_map (members_at w l p) (upto p.number)) ≡ count y (plain_lines w l)
    pub listing : (y : ℕ) → count y (flat_map (listing_at w l p) (upto p.number)) ≡ count y (plain_lines w l)
    pub few : total (map (point_count w l p) (upto p.number)) ≤ total l.counts
