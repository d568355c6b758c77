-- Slots of the pool, and the flights in them.
use Rattle.std.specs.Prelude.{ℕ, Bool, true, false, cond, ◌&&◌, List, is_some, Some, None, Option, slice_index_or, not, ◌==◌}
use Rattle.flights.specs.declared.flight.Flight.{Flight}
use Rattle.flights.specs.declared.flight.Mark.{Mark}
use Rattle.flights.specs.declared.flight.Mark.TheVariants.{InHand, Parked}

-- the flight in slot k
abbrev pub at : List (Option Flight) → ℕ → Option Flight
at slots k = slice_index_or slots k None

abbrev pub is_free : Option Flight → Bool
is_free o = not (is_some o)

abbrev pub is_parked_mark : Mark → Bool
is_parked_mark InHand = false
is_parked_mark Parked = true

-- a flight is there, and is of session k of UE u
abbrev pub is_for : ℕ → ℕ → Option Flight → Bool
is_for u k None = false
is_for u k (Some f) = f.ue == u && f.session == k

-- a flight is there, and is parked under number n
abbrev pub is_parked : ℕ → Option Flight → Bool
is_parked n None = false
is_parked n (Some f) = is_parked_mark f.mark && f.number == n

-- the flight that is there, if its number is n and its ticket is in hand
abbrev pub held : ℕ → Option Flight → Option Flight
held n None = None
held n (Some f) = cond (not (is_parked_mark f.mark) && f.number == n) (Some f) None

-- the flight in slot k, if its number is n and its ticket is in hand
abbrev pub in_hand : List (Option Flight) → ℕ → ℕ → Option Flight
in_hand slots n k = held n (at slots k)

abbrev pub with_mark : Mark → Flight → Flight
with_mark m f = record { number = f.number; ue = f.ue; session = f.session; length = f.length; establishes = f.establishes; mark = m }

abbrev pub marked : Mark → Option Flight → Option Flight
marked m None = None
marked m (Some f) = Some (with_mark m f)
