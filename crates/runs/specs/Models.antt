-- The state of a router, as plain lists and numbers.
use Rattle.std.specs.Prelude.{ℕ, ◌*◌, Bool, List, is_some, None, Option, take, drop, slice_set}
use Rattle.std.specs.List.{list_any, count_by}
use Rattle.accounts.specs.Receives.{Core, State}
use Rattle.flights.specs.declared.flight.Flight.{Flight}
use Rattle.flights.specs.declared.flight.Mark.{Mark}
use Rattle.flights.specs.Slots.{at, is_for, marked}
use Rattle.stores.specs.declared.context.Context.{Context}

-- What a router keeps, what its store has, and the octets of the pool, which is lent to it at each call.
pub record Model : Type 0 where
  pub core : Core
  -- the next ticket number
  pub next : ℕ
  -- by the slots of the pool
  pub flights : List (Option Flight)
  -- the store's contexts, in no order that means anything
  pub contexts : List Context
  -- so many contexts the store has room for, whichever they are
  pub floor : ℕ
  -- whether it has room for this session of this UE
  pub room : ℕ → ℕ → Bool
  pub pool : List ℕ

-- a ticket: its number, and the slot that has the octets
pub record Token : Type 0 where
  pub number : ℕ
  pub slot : ℕ

-- what a receive asks of it
abbrev pub state : Model → State
state m = record { has_flight = λ u k. list_any (is_for u k) m.flights; flights = count_by is_some m.flights; room = m.room; next = m.next }

-- ---- the pool

abbrev pub slot_length : ℕ
slot_length = 2048

-- the first n octets in slot k
abbrev pub slot_octets : List ℕ → ℕ → ℕ → List ℕ
slot_octets pool k n = take n (drop (slot_length * k) pool)

-- the same with another pool
abbrev pub with_pool : List ℕ → Model → Model
with_pool pool m = record { core = m.core; next = m.next; flights = m.flights; contexts = m.contexts; floor = m.floor; room = m.room; pool = pool }

-- ---- changes

-- slot k is free
abbrev pub closed : ℕ → Model → Model
closed k m = record { core = m.core; next = m.next; flights = slice_set m.flights k None; contexts = m.contexts; floor = m.floor; room = m.room; pool = m.pool }

-- the flight in slot k has this mark
abbrev pub remarked : Mark → ℕ → Model → Model
remarked mark k m = record { core = m.core; next = m.next; flights = slice_set m.flights k (marked mark (at m.flights k)); contexts = m.contexts; floor = m.floor; room = m.room; pool = m.pool }
