-- What a refusal that was found is: its number is above 0, and `?` hands it on.
use Prim.Native.Nat.{ℕ, ◌<◌}
use mathlib.Core.Path.{◌≡◌, ap}
use native.Mathlib.Omega.{arith}
use Rattle.std.specs.Prelude.{Ok, Err}
use Rattle.std.specs.declared.result.Result.{Result}
use Rattle.std.specs.Result.{IsErrAnd}
use Rattle.rules.specs.declared.Refusal.{Refusal}
use Rattle.rules.specs.declared.Refusal.TheVariants.{TooMany, TablesDiffer, MarkAboveOne, CountsDoNotAddUp, TooManyCoordinates, BadLimit, RoomTooShort, PieceTooOften, NotFinite, NoSuchChain, BadByteOrder, BadType, BadLength, RecordRoomTooShort, NoPlace, UnknownOrder, BadOrigin, BadWindow, BadPieces, DistrictOverLines, DistrictOverCoordinates, BadOffset, BadRecord, NotAcceptable, MixedTypes, NoTwoEnds}
use Rattle.rules.specs.Answers.{Refused, refusal_number, answered, found}

above_none : (r : Refusal) → 0 < refusal_number r
above_none TooMany = omega arith
above_none TablesDiffer = omega arith
above_none MarkAboveOne = omega arith
above_none CountsDoNotAddUp = omega arith
above_none TooManyCoordinates = omega arith
above_none BadLimit = omega arith
above_none RoomTooShort = omega arith
above_none PieceTooOften = omega arith
above_none NotFinite = omega arith
above_none NoSuchChain = omega arith
above_none BadByteOrder = omega arith
above_none BadType = omega arith
above_none BadLength = omega arith
above_none RecordRoomTooShort = omega arith
above_none NoPlace = omega arith
above_none UnknownOrder = omega arith
above_none BadOrigin = omega arith
above_none BadWindow = omega arith
above_none BadPieces = omega arith
above_none DistrictOverLines = omega arith
above_none DistrictOverCoordinates = omega arith
above_none BadOffset = omega arith
above_none BadRecord = omega arith
above_none NotAcceptable = omega arith
above_none MixedTypes = omega arith
above_none NoTwoEnds = omega arith

-- a refusal's number isn't that of none
pub no_none : (r : Refusal) → refusal_number r ≡ 0 → ⊥
no_none r e = omega (arith, above_none r)

-- what `?` answers for a refusal is the refusal
pub handed_on : {A : Type 0} → (x : Result A Refusal) (r : Refusal) → IsErrAnd x (λ s. s ≡ r) → found x ≡ refusal_number r
handed_on (Ok a) r h = absurd h
handed_on (Err s) r h = ap refusal_number h

-- and a call's answer is its number
pub refused_on : (x : Result ℕ Refusal) (r : Refusal) → IsErrAnd x (λ s. s ≡ r) → answered x ≡ Refused (refusal_number r)
refused_on (Ok n) r h = absurd h
refused_on (Err s) r h = ap (λ (q : Refusal). Refused (refusal_number q)) h
