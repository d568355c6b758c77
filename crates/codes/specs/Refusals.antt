-- The number of each refusal.
use Rattle.std.specs.Prelude.{ℕ, Ok, Err, Result}
use Rattle.codes.specs.declared.refusal.Refusal.{Refusal}
use Rattle.codes.specs.declared.refusal.Refusal.TheVariants.{RecordBounds, PoolLength, Overrun, Header, PayloadType, PayloadLength, ElementLength, ElementKind, SessionBounds, UnknownRequest, OutputLength, PairInFlight, FlightsFull, NoRoom, NumbersSpent, Opening, UnknownTicket, NoContext, ControlKind, ControlFull}

abbrev pub refusal_number : Refusal → ℕ
refusal_number RecordBounds = 1
refusal_number PoolLength = 2
refusal_number Overrun = 3
refusal_number Header = 4
refusal_number PayloadType = 5
refusal_number PayloadLength = 6
refusal_number ElementLength = 7
refusal_number ElementKind = 8
refusal_number SessionBounds = 9
refusal_number UnknownRequest = 10
refusal_number OutputLength = 11
refusal_number PairInFlight = 12
refusal_number FlightsFull = 13
refusal_number NoRoom = 14
refusal_number NumbersSpent = 15
refusal_number Opening = 16
refusal_number UnknownTicket = 17
refusal_number NoContext = 18
refusal_number ControlKind = 19
refusal_number ControlFull = 20

-- a result that is refused, by the number of the refusal
abbrev pub refuse : {X : Type 0} → Refusal → Result X ℕ
refuse r = Err (refusal_number r)

-- what a call of the code gave, with a refusal by its number
abbrev pub numbered : {X : Type 0} → Result X Refusal → Result X ℕ
numbered (Ok x) = Ok x
numbered (Err e) = Err (refusal_number e)
