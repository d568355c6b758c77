use Rattle.std.proofs.Common.{ap, ◌∙◌, subst}
use Rattle.hosts.specs.Holdings.{all_open, Fresh}
use Rattle.hosts.proofs.Holding.{added}
use Rattle.hosts.proofs.host.Host.receive.Goals as goal

pub invariant_of-self-in-Forwarded : goal.invariant_of-self-in-Forwarded
invariant_of-self-in-Forwarded g c =
    let h = c.ask.new.self in
    let f = subst (Fresh h.router.flights.slots h.tickets.held.items) c.in-Forwarded.is c.in_ok-answer.ensures.given in
    record { held = ap (all_open h.router.flights.slots) c.add.ensures ∙ added h.router.flights.slots h.tickets.held.items c.in-Forwarded.ticket h.held f.1 f.0 }
