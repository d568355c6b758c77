use Rattle.std.proofs.Common.{[], length}
use Rattle.hosts.specs.Holdings.{KeepsStore}
use Rattle.router.specs.Views.{model}
use Rattle.hosts.proofs.host.Host.end.Given as goal

abbrev pub decreases-loop : goal.decreases-loop
decreases-loop g l = length l.self.tickets.held.items

abbrev pub invariant-loop : goal.invariant-loop
invariant-loop g l = KeepsStore (model l.fn.self.router []) (model l.self.router [])
