-- What a building call leaves, delivered to the call that judges chains: the same lines, tolerance and origin, and its table, listing and merged coordinates.
use Rattle.std.specs.Prelude.{ℕ, List}
use Rattle.rules.specs.declared.Meeting.{Meeting}
use Rattle.rules.specs.declared.Settings.{Settings}
use Rattle.rules.specs.Layout.{Lines}
use Rattle.rules.specs.Refusals.{Rooms}
use Rattle.rules.specs.Check.{Delivery, delivery}

-- by what the lines of a call meet
abbrev pub meeting_of : Settings → Meeting
meeting_of s = record { tolerance = s.tolerance; origin_x = s.origin_x; origin_y = s.origin_y }

-- n chains of lines of type t, in the rooms that a call leaves
abbrev pub built_delivery : ℕ → Lines → Settings → Rooms → ℕ → (workspace : List ℕ) → Delivery
built_delivery t l s o n workspace = delivery t l (meeting_of s) o.table n o.listing o.merged workspace
