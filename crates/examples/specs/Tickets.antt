-- Tickets that are open in a router, so that giving them back is not refused.
use Rattle.std.specs.Prelude.{◌≡◌, true, [], is_some}
use Rattle.router.specs.declared.answer.Delivery.{Delivery}
use Rattle.router.specs.declared.answer.Delivery.TheVariants.{Forwarded, Returned}
use Rattle.router.specs.declared.router.Router.{Router}
use Rattle.router.specs.declared.ticket.Ticket.{Ticket}
use Rattle.router.specs.Views.{model, token}
use Rattle.runs.specs.Calls.{flight}
use Rattle.stores.specs.declared.store.Store.{Ghosts}

abbrev pub IsOpen : {S : Type 0} {g : Ghosts S} → Router S g → Ticket → Type 0
IsOpen r t = is_some (flight (model r []) (token t)) ≡ true

-- the ticket of a delivery is open, if it has one
abbrev pub HasOpen : {S : Type 0} {g : Ghosts S} → Router S g → Delivery → Type 0
HasOpen r (Forwarded t) = IsOpen r t
HasOpen r (Returned n) = Unit {0}
