-- What `lay_out` asks for can be met: a plain line alone, and a line that passes through. Everything computes.
use Prim.Native.Nat.{ℕ, zero, suc, ◌<◌, zero-le}
use mathlib.Core.Path.{refl}
use mathlib.Core.List.{List, [], ◌∷◌}
use native.Mathlib.Omega.{arith}
use lib.Ieee.{lt}
use lib.ListN.{length, get_or, replicate}
use Rattle.rules.specs.Layout.{lent}
use Rattle.rules.specs.declared.Settings.{Settings}
use Rattle.rules.specs.Plane.{nought}
use Rattle.rules.specs.Chaining.{nothing}
use Rattle.rules.proofs.Computing.{book}
use Rattle.point_numbers.specs.Width.{AllWide, none_wide, more_wide}
use Rattle.chain_laws.proofs.Counts.{nil, cons}
use Rattle.chain_laws.proofs.Drawn.{Drawn}
use Rattle.chain_pieces.specs.Held.{Own}
use Rattle.build_layout.specs.Laying.{left_of, Layable}

abbrev settings : Settings
settings = record { tolerance = nought; origin_x = nought; origin_y = nought; switch = 0; limit = nought }

abbrev coordinates : List ℕ
coordinates = 0 ∷ 0 ∷ 1 ∷ 0 ∷ 5 ∷ 5 ∷ []

abbrev counts : List ℕ
counts = 2 ∷ 1 ∷ []

abbrev groups : List ℕ
groups = 0 ∷ 0 ∷ []

abbrev kinds : List ℕ
kinds = 0 ∷ 1 ∷ []

-- room for two pieces' records, two members, two marks and two lines of the listing, of which one each is used
abbrev work : List ℕ
work = 0 ∷ 1 ∷ 0 ∷ 0 ∷ 2 ∷ replicate 11 0

own : (q : ℕ) → q < 1 → Own 2 coordinates counts (get_or (left_of 2 settings (lent coordinates counts groups kinds)) q nothing)
unfolding book lt
own zero h = record { within = omega arith; same = refl }
own (suc q) h = absurd (omega arith)

full : (q : ℕ) → q < 1 → 0 < length (get_or (left_of 2 settings (lent coordinates counts groups kinds)) q nothing).lines
unfolding book lt
full zero h = omega arith
full (suc q) h = absurd (omega arith)

wide : (q : ℕ) → q < 1 → AllWide 2 (get_or (left_of 2 settings (lent coordinates counts groups kinds)) q nothing).points
unfolding book lt
wide zero h = more_wide refl (more_wide refl none_wide)
wide (suc q) h = absurd (omega arith)

drawn : (q : ℕ) → q < 1 → Drawn (get_or (left_of 2 settings (lent coordinates counts groups kinds)) q nothing)
unfolding book lt
drawn zero h = record { marked = refl; low = cons {a = 0} (omega arith) nil; passes = λ y. refl }
drawn (suc q) h = absurd (omega arith)

pub example : Layable 2 work 2 1 1 coordinates [] counts kinds (replicate 12 0) (replicate 2 0) (replicate 2 0) (replicate 2 0)
unfolding book lt
example =
    record {
      groups = groups;
      ps = left_of 2 settings (lent coordinates counts groups kinds);
      held = record {
        few = omega arith;
        listed = omega arith;
        room = omega arith;
        records = refl;
        members = refl;
        marks = refl;
        listing = refl;
        drawn = drawn;
        full = full;
        own = λ q b d. own q b;
        wide = wide;
        copied = refl;
      };
      number = refl;
      listed = refl;
      members_low = cons zero-le nil;
      points_few = omega arith;
      pieces_all = omega arith;
      members_all = omega arith;
      few = omega arith;
      counts_long = refl;
      kinds_long = refl;
      adds = record { two = omega arith; sum = refl };
      small = omega arith;
      table_long = omega arith;
      members_long = omega arith;
      marks_long = omega arith;
      listing_long = omega arith;
    }
