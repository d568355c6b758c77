use Rattle.std.proofs.Common.{[], ◌∷◌, ◌++◌, ap, ◌∙◌}
use Rattle.router.specs.Views.{model}
use Rattle.hosts.specs.Holdings.{all_open}
use Rattle.hosts.proofs.Calls.{failed_left, failed_kept}
use Rattle.hosts.proofs.Holding.{taken_out}
use Rattle.hosts.proofs.host.Host.failed.Goals as goal

pub invariant_of-self-in-Ok-1 : goal.invariant_of-self-in-Ok-1
invariant_of-self-in-Ok-1 g c = record {
  held = failed_left (model c.args.self.now.router c.choose_pool-pool.result.now) (model c.failed.new.self c.choose_pool-pool.result.now) c.in-Some.ticket c.take.new.self.held.items (taken_out c.args.self.now.router.flights.slots _ _ _ c.args.self.now.held c.in-Some.ensures.taken) _ _ _ c.in-Ok.ensures.does;
}

pub invariant_of-self-in-Err : goal.invariant_of-self-in-Err
invariant_of-self-in-Err g c =
    let ts = c.take.new.self.held.items in
    record {
      held =
          ap (all_open c.failed.new.self.flights.slots) (c.add.ensures ∙ ap (λ u. ts ++ u ∷ []) c.in-Err.ensures.handed_back)
          ∙ failed_kept (model c.args.self.now.router c.choose_pool-pool.result.now) (model c.failed.new.self c.choose_pool-pool.result.now) c.in-Some.ticket ts (taken_out c.args.self.now.router.flights.slots _ _ _ c.args.self.now.held c.in-Some.ensures.taken) _ _ _ c.in-Err.ensures.does;
    }
