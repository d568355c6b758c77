-- Runs: lists of calls on a router that was opened over an empty store.
use Rattle.std.specs.Prelude.{◌≡◌, ℕ, List, [], ◌∷◌, Some, None, length, replicate, cond, ◌==◌}
use Rattle.accounts.specs.Receives.{Opening, pool_length, most_flights}
use Rattle.flights.specs.declared.flight.Flight.{Flight}
use Rattle.flights.specs.Slots.{at}
use Rattle.runs.specs.Models.{Model, slot_octets}
use Rattle.runs.specs.Entries.{Entry, receive, payload, taken, failed, park, pick, released}
use Rattle.runs.specs.Calls.{Receives, HandsOut, Takes, Fails, Parks, Picks, Releases}

-- a router that was just opened
pub record Opened (o : Opening) (m : Model) : Type 0 where
  pub core : m.core ≡ o.core
  pub next : m.next ≡ o.first
  pub flights : m.flights ≡ replicate most_flights None
  pub contexts : m.contexts ≡ []

-- a buffer that is handed in and has a pool's length is the pool
abbrev pub IsPool : ℕ → Model → Type 0
IsPool n m = n ≡ pool_length → length m.pool ≡ pool_length

-- the call does this to the state
abbrev pub Step : Model → Entry → Model → Type 0
Step m (receive r chosen ticket a) n = IsPool r.pool m × Receives m r chosen ticket a n
Step m (payload pool t a) n = HandsOut m pool t a n
Step m (taken t a) n = Takes m t a n
Step m (failed pool output t a) n = Fails m pool output t a n
Step m (park t a) n = Parks m t a n
Step m (pick number a) n = Picks m number a n
Step m (released u k a) n = Releases m u k a n

-- What the owner of the pool may do to it between two calls, or hand in in its place: the slots of flights keep their octets, and nothing is
-- asked of all others.
pub record Lent (m n : Model) : Type 0 where
  pub core : n.core ≡ m.core
  pub next : n.next ≡ m.next
  pub flights : n.flights ≡ m.flights
  pub contexts : n.contexts ≡ m.contexts
  pub floor : n.floor ≡ m.floor
  pub room : (u k : ℕ) → n.room u k ≡ m.room u k
  pub octets : (k : ℕ) (f : Flight) → at m.flights k ≡ Some f → slot_octets n.pool k f.length ≡ slot_octets m.pool k f.length

-- a run: its calls, the latest first, and the state that it ends in
pub data Run (o : Opening) : List Entry → Model → Type 0 where
  opened : {m : Model} → Opened o m → Run o [] m
  lent : {es : List Entry} {m n : Model} → Run o es m → Lent m n → Run o es n
  step : {es : List Entry} {m n : Model} (e : Entry) → Run o es m → Step m e n → Run o (e ∷ es) n

-- the buffer that a call is handed is the pool, if it has a pool's length
abbrev pub IsHanded : List ℕ → List ℕ → Type 0
IsHanded pool handed = length handed ≡ pool_length → pool ≡ handed

-- the pool afterwards: that buffer as the call left it, if it has a pool's length, and else the pool as it was
abbrev pub pool_after : List ℕ → List ℕ → List ℕ → List ℕ
pool_after pool handed left = cond (length handed == pool_length) left pool
