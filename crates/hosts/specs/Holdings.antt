-- The tickets that a host holds of a router.
use Rattle.std.specs.Prelude.{◌≡◌, ℕ, ◌+◌, ◌<◌, Bool, true, false, ◌&&◌, List, [], ◌∷◌, ◌++◌, length, is_some, Option, not, ◌==◌, take, drop, slice_index_or}
use Rattle.flights.specs.declared.flight.Flight.{Flight}
use Rattle.flights.specs.Slots.{in_hand}
use Rattle.router.specs.declared.answer.Delivery.{Delivery}
use Rattle.router.specs.declared.answer.Delivery.TheVariants.{Forwarded, Returned}
use Rattle.router.specs.declared.router.Router.{Router}
use Rattle.router.specs.declared.ticket.Ticket.{Ticket}
use Rattle.router.specs.Views.{model}
use Rattle.runs.specs.Models.{Model}
use Rattle.stores.specs.declared.store.Store.{Ghosts}

-- the ticket is open in a router with these flights
abbrev pub is_open : List (Option Flight) → Ticket → Bool
is_open flights t = is_some (in_hand flights t.number t.slot)

-- none of them is of slot k
abbrev pub none_of : ℕ → List Ticket → Bool
none_of k [] = true
none_of k (t ∷ ts) = not (t.slot == k) && none_of k ts

-- each is open, and no two are of one slot
abbrev pub all_open : List (Option Flight) → List Ticket → Bool
all_open flights [] = true
all_open flights (t ∷ ts) = is_open flights t && (none_of t.slot ts && all_open flights ts)

-- t is one of xs, and ys are the others
pub record TakenOut (xs : List Ticket) (t : Ticket) (ys : List Ticket) : Type 0 where
  pub place : ℕ
  pub within : place < length xs
  pub is : t ≡ slice_index_or xs place t
  pub rest : ys ≡ take place xs ++ drop (place + 1) xs

-- a ticket that is given is open, and of a slot that none of those that are held is of
abbrev pub Fresh : List (Option Flight) → List Ticket → Delivery → Type 0
Fresh flights ts (Forwarded t) = (is_open flights t ≡ true) × (none_of t.slot ts ≡ true)
Fresh flights ts (Returned n) = Unit {0}

-- there was one ticket more, or there was none
abbrev pub Shrinks : Bool → List Ticket → List Ticket → Type 0
Shrinks true xs ys = length xs ≡ length ys + 1
Shrinks false xs ys = ys ≡ []

-- the store has the same contexts, and room for the same sessions
pub record KeepsStore (m n : Model) : Type 0 where
  pub contexts : n.contexts ≡ m.contexts
  pub floor : n.floor ≡ m.floor
  pub room : (u k : ℕ) → n.room u k ≡ m.room u k

-- this store is as the one of the router: with the same contexts, and room for the same sessions
pub record IsStoreOf {S : Type 0} {g : Ghosts S} (r : Router S g) (s : S) : Type 0 where
  pub contexts : g.contexts s ≡ (model r []).contexts
  pub floor : g.floor s ≡ (model r []).floor
  pub room : (u k : ℕ) → g.room s u k ≡ (model r []).room u k
