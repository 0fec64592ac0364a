-- Each refusal has the number that the book gives it.
use Rattle.std.proofs.Common.{◌≡◌, refl, ◌+◌}
use denote.Enum.Declared.{tag_of}
use Rattle.rules.specs.contracts.Refusal.{the_type}
use Rattle.rules.specs.declared.Refusal.{Refusal}
use Rattle.rules.specs.declared.Refusal.TheVariants.{TooMany, TablesDiffer, MarkAboveOne, CountsDoNotAddUp, TooManyCoordinates, BadLimit, RoomTooShort, PieceTooOften, NotFinite, NoSuchChain, BadByteOrder, BadType, BadLength, RecordRoomTooShort, NoPlace, UnknownOrder, BadOrigin, BadWindow, BadPieces, DistrictOverLines, DistrictOverCoordinates, BadOffset, BadRecord, NotAcceptable, MixedTypes, NoTwoEnds}
use Rattle.door.proofs.refusal_number.Goals as goal
use Rattle.rules.specs.Answers.{refusal_number}

told : (r : Refusal) → tag_of the_type r + 1 ≡ refusal_number r
told TooMany = refl
told TablesDiffer = refl
told MarkAboveOne = refl
told CountsDoNotAddUp = refl
told TooManyCoordinates = refl
told BadLimit = refl
told RoomTooShort = refl
told PieceTooOften = refl
told NotFinite = refl
told NoSuchChain = refl
told BadByteOrder = refl
told BadType = refl
told BadLength = refl
told RecordRoomTooShort = refl
told NoPlace = refl
told UnknownOrder = refl
told BadOrigin = refl
told BadWindow = refl
told BadPieces = refl
told DistrictOverLines = refl
told DistrictOverCoordinates = refl
told BadOffset = refl
told BadRecord = refl
told NotAcceptable = refl
told MixedTypes = refl
told NoTwoEnds = refl

pub returns : goal.returns
returns c = told c.args.refusal
