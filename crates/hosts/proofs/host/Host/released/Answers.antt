use Rattle.std.proofs.Common.{[]}
use Rattle.router.specs.Views.{model}
use Rattle.hosts.proofs.Calls.{released}
use Rattle.hosts.proofs.host.Host.released.Goals as goal

pub invariant_of-self : goal.invariant_of-self
invariant_of-self g c = record {
  held = released (model c.args.self.now.router []) (model c.released.new.self []) _ _ _ c.args.self.now.tickets.held.items (c.released.ensures.does []) c.args.self.now.held;
}
