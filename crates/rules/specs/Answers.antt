-- What a call answers, a direction and a grid: the words of the book for the code's `Result` and `Option`.
use Rattle.std.specs.Prelude.{ℕ, Option, Some, None, Float}
use Rattle.std.specs.declared.result.Result.{Result}
use Rattle.std.specs.Prelude.{Ok, Err}
use Rattle.rules.specs.declared.Meeting.{Meeting}
use Rattle.rules.specs.declared.Refusal.{Refusal}
use Rattle.rules.specs.declared.Refusal.TheVariants.{TooMany, TablesDiffer, MarkAboveOne, CountsDoNotAddUp, TooManyCoordinates, BadLimit, RoomTooShort, PieceTooOften, NotFinite, NoSuchChain, BadByteOrder, BadType, BadLength, RecordRoomTooShort, NoPlace, UnknownOrder, BadOrigin, BadWindow, BadPieces, DistrictOverLines, DistrictOverCoordinates, BadOffset, BadRecord, NotAcceptable, MixedTypes, NoTwoEnds}

-- the number of a refusal
abbrev pub refusal_number : Refusal → ℕ
refusal_number TooMany = 1
refusal_number TablesDiffer = 2
refusal_number MarkAboveOne = 3
refusal_number CountsDoNotAddUp = 4
refusal_number TooManyCoordinates = 5
refusal_number BadLimit = 6
refusal_number RoomTooShort = 7
refusal_number PieceTooOften = 8
refusal_number NotFinite = 9
refusal_number NoSuchChain = 10
refusal_number BadByteOrder = 11
refusal_number BadType = 12
refusal_number BadLength = 13
refusal_number RecordRoomTooShort = 14
refusal_number NoPlace = 15
refusal_number UnknownOrder = 16
refusal_number BadOrigin = 17
refusal_number BadWindow = 18
refusal_number BadPieces = 19
refusal_number DistrictOverLines = 20
refusal_number DistrictOverCoordinates = 21
refusal_number BadOffset = 22
refusal_number BadRecord = 23
refusal_number NotAcceptable = 24
refusal_number MixedTypes = 25
refusal_number NoTwoEnds = 26

-- an answer is a result, or the number of a refusal
abbrev pub Answer : Type 0
Answer = Result ℕ ℕ

pattern abbrev pub Accepted : ℕ → Answer
Accepted n = Ok n

pattern abbrev pub Refused : ℕ → Answer
Refused k = Err k

-- what a function of the code answers, as the book has it
abbrev pub answered : Result ℕ Refusal → Answer
answered (Ok n) = Accepted n
answered (Err r) = Refused (refusal_number r)

-- the number of the refusal that a function of the code found, or 0
abbrev pub found : {A : Type 0} → Result A Refusal → ℕ
found (Ok _) = 0
found (Err r) = refusal_number r

-- a direction is its x and y, or none
abbrev pub Direction : Type 0
Direction = Option (Float × Float)

pattern abbrev pub Absent : Direction
Absent = None

pattern abbrev pub Toward : Float → Float → Direction
Toward x y = Some (x, y)

-- a grid is cells of a tolerance, counted from an origin, or none
abbrev pub Grid : Type 0
Grid = Option Meeting

pattern abbrev pub Exact : Grid
Exact = None

abbrev pub Cells : Float → Float → Float → Grid
Cells tolerance ox oy = Some (record { tolerance = tolerance; origin_x = ox; origin_y = oy })
