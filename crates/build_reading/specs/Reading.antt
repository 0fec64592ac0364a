-- What a host reads in the rooms that a building call leaves: chain by chain its members, their marks, its lines in the order in
-- which they are passed, its source, whether it is a loop, its coordinates by the view, and its box.
use Rattle.std.specs.Prelude.{ℕ, List, map, take, drop}
use Rattle.rules.specs.declared.Box.{Box}
use Rattle.rules.specs.Lists.{one, upto}
use Rattle.rules.specs.Plane.{flat}
use Rattle.rules.specs.Boxes.{box_of, box_at}
use Rattle.rules.specs.Chaining.{Piece}
use Rattle.rules.specs.Layout.{copied, loop as loop_of}
use Rattle.rules.specs.Refusals.{Rooms, entry}
use Rattle.rules.specs.Calls.{viewed}

pub record ChainRead : Type 0 where
  pub members : List ℕ
  pub marks : List ℕ
  pub listing : List ℕ
  pub source : ℕ
  pub loop : ℕ
  pub coordinates : List ℕ
  pub box : Box

-- chain k, of lines of type t
unfoldable pub read_at : (t : ℕ) (input : List ℕ) → Rooms → ℕ → ChainRead
read_at t input o k =
    record {
      members = take (entry o.table k 1) (drop (entry o.table k 0) o.members);
      marks = take (entry o.table k 1) (drop (entry o.table k 0) o.marks);
      listing = take (entry o.table k 1) (drop (entry o.table k 0) o.listing);
      source = entry o.table k 2;
      loop = entry o.table k 5;
      coordinates = viewed t input o.merged o.table k;
      box = box_at o.boxes k;
    }

-- all of n chains
unfoldable pub read_all : (t : ℕ) (input : List ℕ) → Rooms → ℕ → List ChainRead
read_all t input o n = map (read_at t input o) (upto n)

-- a chain of the book, of points of w numbers each, as it is read
unfoldable pub read_of : ℕ → Piece → ChainRead
read_of w p =
    record {
      members = p.lines;
      marks = p.marks;
      listing = p.listing;
      source = one (copied p);
      loop = one (loop_of p.points);
      coordinates = flat w p.points;
      box = box_of p.points;
    }
