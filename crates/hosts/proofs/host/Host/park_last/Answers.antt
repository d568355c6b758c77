use Rattle.std.proofs.Common.{[]}
use Rattle.router.specs.Views.{model}
use Rattle.hosts.proofs.Calls.{parked_left, parked_refused, parked_store}
use Rattle.hosts.proofs.Holding.{last_out}
use Rattle.hosts.proofs.host.Host.park_last.Goals as goal

pub invariant_of-self-2 : goal.invariant_of-self-2
invariant_of-self-2 g c = record {
  held = parked_left (model c.args.self.now.router []) (model c.park.new.self []) c.in-Some.ticket c.take_last.new.self.held.items (last_out c.args.self.now.router.flights.slots _ _ _ c.args.self.now.held c.in-Some.ensures) _ (c.park.ensures.does []);
}

pub unreachable-requires : goal.unreachable-requires
unreachable-requires g c =
    parked_refused (model c.args.self.now.router []) (model c.park.new.self []) c.in-Some.ticket c.take_last.new.self.held.items (last_out c.args.self.now.router.flights.slots _ _ _ c.args.self.now.held c.in-Some.ensures) _ (c.in-Err.ensures.does [])

pub returns-clause-store : goal.returns-clause-store
returns-clause-store g c =
    parked_store (model c.args.self.now.router []) (model c.park.new.self []) c.in-Some.ticket c.take_last.new.self.held.items (last_out c.args.self.now.router.flights.slots _ _ _ c.args.self.now.held c.in-Some.ensures) _ (c.park.ensures.does [])
