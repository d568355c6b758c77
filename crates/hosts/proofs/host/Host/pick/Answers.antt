use Rattle.std.proofs.Common.{[], ap, ◌∙◌}
use Rattle.router.specs.Views.{model}
use Rattle.hosts.specs.Holdings.{all_open}
use Rattle.hosts.proofs.Calls.{picked_left, pick_refused}
use Rattle.hosts.proofs.host.Host.pick.Goals as goal

pub invariant_of-self-in-Break-branch-2 : goal.invariant_of-self-in-Break-branch-2
invariant_of-self-in-Break-branch-2 g c = record {
  held = pick_refused (model c.args.self.now.router []) (model c.pick.new.self []) c.reserve.new.self.held.items (ap (all_open c.args.self.now.router.flights.slots) c.reserve.ensures.same ∙ c.args.self.now.held) c.args.number _ (c.in_err-ticket.ensures.does []);
}

pub invariant_of-self-2 : goal.invariant_of-self-2
invariant_of-self-2 g c = record {
  held =
      ap (all_open c.pick.new.self.flights.slots) c.add.ensures
      ∙ picked_left (model c.args.self.now.router []) (model c.pick.new.self []) c.reserve.new.self.held.items (ap (all_open c.args.self.now.router.flights.slots) c.reserve.ensures.same ∙ c.args.self.now.held) c.args.number c.in_ok-ticket.ticket (c.in_ok-ticket.ensures.does []);
}
