-- Offsets, computed on the book: limits of some, and each refusal of the calls with an offset in the limit's place.
use Rattle.std.specs.Prelude.{◌*◌, ◌≡◌}
use mathlib.Core.Path.{refl}
use lib.Ieee.{nan, inf, of_bits, size, round, to_bits}
use Rattle.rules.specs.Library.{ℕ, true, false, replicate, Accepted, Refused}
use Rattle.rules.specs.Lists.{total, count}
use Rattle.rules.specs.Root.{digits, floor_root}
use Rattle.rules.specs.Plane.{reads, points, float}
use Rattle.rules.specs.Layout.{Lines}
use Rattle.rules.specs.Types.{width_of}
use Rattle.rules.specs.Refusals.{first_of, any_above, origin_bad, nowhere, any_nowhere, more_than_twice, any_wild, Rooms, LentEnds}
use Rattle.rules.specs.Calls.{unless, answer_of}
use Rattle.rules.specs.Offset.{offset_root, offset_limit, offset_refusal_of, offset_asked, limit_for, build_offset_refusal_of, pair_offset_refusal_of, ends_for}
use Rattle.rules.proofs.Computing.{the-shares}
use Rattle.rules.proofs.Given.{+0, +1, not_a_number}

-- everything that is run through
unfoldable asking : Unit {0}
unfolding offset_root offset_limit offset_refusal_of offset_asked floor_root digits round size to_bits first_of answer_of unless
asking = tt

-- no offset is straight on, -1.0; the root of an offset of 2, 577 and 1,000 is nearer to the next whole number, and is cut
pub limits : (offset_asked 0 ≡ Accepted 0xbff0000000000000)
    × (offset_asked 1 ≡ Accepted 0xbfeffffef3909326)
    × (offset_asked 2 ≡ Accepted 0xbfeffffbce42eaed)
    × (offset_asked 577 ≡ Accepted 0xbfebb78e597e60cf)
    × (offset_asked 1000 ≡ Accepted 0xbfe6a09e667f3bcc)
    × (offset_asked 1001 ≡ Refused 22)
    × (offset_asked 4294967295 ≡ Refused 22)
unfolding asking
limits = (refl, refl, refl, refl, refl, refl, refl)

-- ---- building

unfoldable building : Unit {0}
unfolding build_offset_refusal_of width_of first_of any_above origin_bad nowhere any_nowhere total reads points of_bits the-shares
building = tt

-- n lines of one coordinate each, whose numbers are x; a room of m numbers each
abbrev lines : ℕ → ℕ → Lines
lines n x = record { coordinates = replicate (n * 2) x; counts = replicate n 1; groups = replicate n 0; kinds = replicate n 0 }

abbrev room : ℕ → Rooms
room m = record { table = replicate m 0; members = replicate m 0; marks = replicate m 0; listing = replicate m 0; merged = replicate m 0; boxes = replicate m 0; spare = replicate m 0; workspace = replicate m 0 }

pub build_refusals :
    -- the greatest offset; one more; a switch above 1 is refused by 6 whatever the offset is; with the switch at 0 the offset isn't looked at
    (build_offset_refusal_of 2 (lines 1 +1) (float +0) (float +0) 1 1000 (room 192) ≡ 0)
    × (build_offset_refusal_of 2 (lines 1 +1) (float +0) (float +0) 1 1001 (room 192) ≡ 22)
    × (build_offset_refusal_of 2 (lines 1 +1) (float +0) (float +0) 2 1000 (room 192) ≡ 6)
    × (build_offset_refusal_of 2 (lines 1 +1) (float +0) (float +0) 2 1001 (room 192) ≡ 6)
    × (build_offset_refusal_of 2 (lines 1 +1) (float +0) (float +0) 0 1001 (room 192) ≡ 0)
    -- before 7, after 15 and all of 1 to 5
    × (build_offset_refusal_of 2 (lines 1 +1) (float +0) (float +0) 1 1001 (room 0) ≡ 22)
    × (build_offset_refusal_of 2 (lines 1 +1) (float +0) (float +0) 1 1000 (room 0) ≡ 7)
    × (build_offset_refusal_of 2 (lines 1 not_a_number) (float +0) (float +0) 1 1001 (room 192) ≡ 15)
    × (build_offset_refusal_of 2 (lines 4097 +1) (float +0) (float +0) 1 1001 (room 192) ≡ 1)
    -- an origin that is no place is judged after the offset, and before 7
    × (build_offset_refusal_of 2 (lines 1 +1) (float +0) nan 1 1001 (room 0) ≡ 22)
    × (build_offset_refusal_of 2 (lines 1 +1) (float +0) nan 1 1000 (room 0) ≡ 17)
    × (build_offset_refusal_of 2 (lines 1 +1) (inf true) (float +0) 0 1001 (room 192) ≡ 17)
unfolding building
build_refusals = (refl, refl, refl, refl, refl, refl, refl, refl, refl, refl, refl, refl)

-- ---- pairing

unfoldable pairing : Unit {0}
unfolding pair_offset_refusal_of limit_for first_of any_above more_than_twice any_wild count of_bits
pairing = tt

-- d ends of one piece, with the mark and directions of x; a room of m numbers each
abbrev lent : ℕ → ℕ → ℕ → ℕ → ℕ → LentEnds
lent d mark x g m = ends_for (replicate d mark) (replicate (d * 2) (float x)) (replicate d 5) g (replicate m 0) (replicate m 0)

pub pair_refusals :
    (pair_offset_refusal_of true 1000 (lent 1 1 +0 1000 64) ≡ 0)
    × (pair_offset_refusal_of true 1001 (lent 1 1 +0 1001 64) ≡ 22)
    -- before 7, 8 and 9, after 1 and 3
    × (pair_offset_refusal_of true 1001 (lent 1 1 +0 1001 0) ≡ 22)
    × (pair_offset_refusal_of true 1000 (lent 1 1 +0 1000 0) ≡ 7)
    × (pair_offset_refusal_of true 1001 (lent 3 1 +0 1001 192) ≡ 22)
    × (pair_offset_refusal_of true 1000 (lent 3 1 +0 1000 192) ≡ 8)
    × (pair_offset_refusal_of true 1001 (lent 1 1 not_a_number 1001 64) ≡ 22)
    × (pair_offset_refusal_of true 1000 (lent 1 1 not_a_number 1000 64) ≡ 9)
    × (pair_offset_refusal_of false 1000 (lent 1 1 not_a_number 1000 64) ≡ 0)
    × (pair_offset_refusal_of false 1001 (lent 1 2 +0 1001 64) ≡ 3)
    × (pair_offset_refusal_of false 1001 (lent 8193 1 +0 1001 0) ≡ 1)
unfolding pairing
pair_refusals = (refl, refl, refl, refl, refl, refl, refl, refl, refl, refl, refl)
