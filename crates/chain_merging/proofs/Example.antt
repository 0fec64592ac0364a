-- What `emit_all` asks for can be met: two lines, the second from where the first ends, and one walk over both. Everything computes.
use Prim.Native.Nat.{ℕ, zero, suc, ◌<◌}
use mathlib.Core.Path.{◌≡◌, refl}
use mathlib.Core.List.{List, [], ◌∷◌, ◌++◌, flat_map, flatten}
use mathlib.Core.Option.{none}
use native.Mathlib.Omega.{arith}
use lib.ListN.{length, get_or, replicate}
use Rattle.rules.specs.Answers.{Exact}
use Rattle.rules.specs.Lists.{total}
use Rattle.rules.specs.Plane.{point, numbers_of, flat}
use Rattle.rules.specs.Walking.{piece_of}
use Rattle.rules.specs.Chaining.{Piece, nothing, piece_at, merge}
use Rattle.rules.specs.Layout.{copied, copy, five, rows}
use Rattle.point_numbers.specs.Width.{AllWide, none_wide, more_wide}
use Rattle.chain_laws.proofs.Counts.{nil, cons}
use Rattle.chain_laws.proofs.Drawn.{Drawn}
use Rattle.chain_pieces.specs.Held.{Own, Packed}
use Rattle.chain_pieces.proofs.Packed.{packed_held}
use Rattle.chain_merging.specs.Emit.{Walks}

abbrev line : ℕ → ℕ → ℕ → Piece
line k a b = record { lines = k ∷ []; marks = 0 ∷ []; listing = k ∷ []; points = point a 0 ∷ point b 0 ∷ []; group = 0 }

abbrev pieces : List Piece
pieces = line 0 0 1 ∷ line 1 1 2 ∷ []

abbrev input : List ℕ
input = 0 ∷ 0 ∷ 1 ∷ 0 ∷ 1 ∷ 0 ∷ 2 ∷ 0 ∷ []

abbrev counts : List ℕ
counts = 2 ∷ 2 ∷ []

-- the front; two records, two members, two marks and two lines in the listing, from 16 on; two entries, from 32 on; one length, at 34
abbrev work : List ℕ
work =
    replicate 16 0
    ++ (0 ∷ 1 ∷ 0 ∷ 0 ∷ 2 ∷ 1 ∷ 1 ∷ 0 ∷ 2 ∷ 2 ∷ 0 ∷ 1 ∷ 0 ∷ 0 ∷ 0 ∷ 1 ∷ 0 ∷ 2 ∷ 2 ∷ [])

full : (q : ℕ) → q < length pieces → 0 < length (get_or pieces q nothing).lines
full zero h = omega arith
full (suc zero) h = omega arith
full (suc (suc q)) h = absurd (omega arith)

own : (q : ℕ) → q < length pieces → length (get_or pieces q nothing).lines ≡ 1 → Own 2 input counts (get_or pieces q nothing)
unfolding flat numbers_of total
own zero h e = record { within = omega arith; same = refl }
own (suc zero) h e = record { within = omega arith; same = refl }
own (suc (suc q)) h e = absurd (omega arith)

wide : (q : ℕ) → q < length pieces → AllWide 2 (get_or pieces q nothing).points
wide zero h = more_wide refl (more_wide refl none_wide)
wide (suc zero) h = more_wide refl (more_wide refl none_wide)
wide (suc (suc q)) h = absurd (omega arith)

drawn : (q : ℕ) → q < length pieces → Drawn (get_or pieces q nothing)
drawn zero h = record { marked = refl; low = cons {a = 0} (omega arith) nil; passes = λ y. refl }
drawn (suc zero) h = record { marked = refl; low = cons {a = 0} (omega arith) nil; passes = λ y. refl }
drawn (suc (suc q)) h = absurd (omega arith)

packed : Packed 2 work 16 2 input [] counts pieces
unfolding flat_map rows copied copy five flat numbers_of total
packed =
    record {
      few = omega arith;
      listed = omega arith;
      room = omega arith;
      records = refl;
      members = refl;
      marks = refl;
      listing = refl;
      drawn = drawn;
      full = full;
      own = own;
      wide = wide;
      copied = refl;
    }

below : (k : ℕ) → k < 2 → piece_of (get_or {A = ℕ} (0 ∷ 2 ∷ []) k 0) < length pieces
below zero h = omega arith
below (suc zero) h = omega arith
below (suc (suc k)) h = absurd (omega arith)

filled : (j : ℕ) → j < 1 → 0 < length {A = ℕ} (get_or ((0 ∷ 2 ∷ []) ∷ []) j [])
filled zero h = omega arith
filled (suc j) h = absurd (omega arith)

pub example : Walks 2 work 2 16 2 32 34 1 input [] (replicate 8 0)
unfolding flatten flat_map total piece_at merge
example =
    record {
      rule = record { grid = Exact; limit = none };
      counts = counts;
      ps = pieces;
      ws = (0 ∷ 2 ∷ []) ∷ [];
      held = packed_held 2 work 16 2 input [] counts pieces packed;
      two = omega arith;
      front = omega arith;
      all = refl;
      number = refl;
      few = omega arith;
      entered = refl;
      entries_in = omega arith;
      measured = refl;
      lengths_in = omega arith;
      filled = filled;
      below = below;
      listed = omega arith;
      fits = omega arith;
    }
