-- An answer's number: a result is itself, and 2 ^ 64 - k is (2 ^ 64 - 1) - k + 1, which fits since the number of a refusal is above 0.
use Prim.Native.Nat.{ℕ, ◌+◌, ◌-◌, ◌^◌, ◌<◌, ◌≤◌}
use native.Mathlib.Omega.{arith}
use mathlib.Core.Path.{◌≡◌, sym, ap, ◌∙◌}
use Rattle.rules.specs.Answers.{answered, refusal_number}
use Rattle.rules.specs.Calls.{number_of}
use Rattle.rules.specs.declared.Refusal.{Refusal}
use Rattle.rules.specs.declared.Refusal.TheVariants.{TooMany, TablesDiffer, MarkAboveOne, CountsDoNotAddUp, TooManyCoordinates, BadLimit, RoomTooShort, PieceTooOften, NotFinite, NoSuchChain, BadByteOrder, BadType, BadLength, RecordRoomTooShort, NoPlace, UnknownOrder, BadOrigin, BadWindow, BadPieces, DistrictOverLines, DistrictOverCoordinates, BadOffset, BadRecord, NotAcceptable, MixedTypes, NoTwoEnds}
use Rattle.door.proofs.number.Goals as goal

above : (r : Refusal) → (0 < refusal_number r) × (refusal_number r < 27)
above TooMany = (omega arith, omega arith)
above TablesDiffer = (omega arith, omega arith)
above MarkAboveOne = (omega arith, omega arith)
above CountsDoNotAddUp = (omega arith, omega arith)
above TooManyCoordinates = (omega arith, omega arith)
above BadLimit = (omega arith, omega arith)
above RoomTooShort = (omega arith, omega arith)
above PieceTooOften = (omega arith, omega arith)
above NotFinite = (omega arith, omega arith)
above NoSuchChain = (omega arith, omega arith)
above BadByteOrder = (omega arith, omega arith)
above BadType = (omega arith, omega arith)
above BadLength = (omega arith, omega arith)
above RecordRoomTooShort = (omega arith, omega arith)
above NoPlace = (omega arith, omega arith)
above UnknownOrder = (omega arith, omega arith)
above BadOrigin = (omega arith, omega arith)
above BadWindow = (omega arith, omega arith)
above BadPieces = (omega arith, omega arith)
above DistrictOverLines = (omega arith, omega arith)
above DistrictOverCoordinates = (omega arith, omega arith)
above BadOffset = (omega arith, omega arith)
above BadRecord = (omega arith, omega arith)
above NotAcceptable = (omega arith, omega arith)
above MixedTypes = (omega arith, omega arith)
above NoTwoEnds = (omega arith, omega arith)

below : (k : ℕ) → k ≤ 18446744073709551615 → 18446744073709551615 - k + 1 ≡ 2 ^ 64 - k
below k h = omega arith

pub overflow_sub-result : goal.overflow_sub-result
overflow_sub-result c = omega (arith, above c.in-Err.refusal, c.refusal_number.ensures)

pub overflow_add-result : goal.overflow_add-result
overflow_add-result c = omega (arith, above c.in-Err.refusal, c.refusal_number.ensures)

pub returns-in-Ok : goal.returns-in-Ok
unfolding number_of
returns-in-Ok c = sym (ap (λ a. number_of (answered a)) c.in-Ok.is)

pub returns-in-Err : goal.returns-in-Err
unfolding number_of
returns-in-Err c = below c.refusal_number.result (omega (arith, above c.in-Err.refusal, c.refusal_number.ensures)) ∙ ap (λ (k : ℕ). 2 ^ 64 - k) c.refusal_number.ensures ∙ sym (ap (λ a. number_of (answered a)) c.in-Err.is)
