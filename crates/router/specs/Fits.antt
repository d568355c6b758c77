-- What holds of the flights of a router at any time.
use Rattle.std.specs.Prelude.{◌≡◌, ℕ, Bool, true, ◌&&◌, List, Some, None, Option, nat_lt}
use Rattle.codes.specs.Sessions.{session_fits}
use Rattle.flights.specs.declared.flight.Flight.{Flight}
use Rattle.flights.specs.Slots.{at}

-- the flight is of a session that a UE can have, and has as many octets as a slot can have
abbrev pub flight_fits : Flight → Bool
flight_fits f = session_fits f.session && (nat_lt 0 f.length && nat_lt f.length 2049)

abbrev pub slot_fits : Option Flight → Bool
slot_fits None = true
slot_fits (Some f) = flight_fits f

-- so is each flight
abbrev pub FlightsFit : List (Option Flight) → Type 0
FlightsFit slots = (k : ℕ) → slot_fits (at slots k) ≡ true
