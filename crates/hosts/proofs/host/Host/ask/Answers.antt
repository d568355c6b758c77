use Rattle.router.specs.Views.{model}
use Rattle.hosts.proofs.Calls.{received_left, fresh}
use Rattle.hosts.proofs.host.Host.ask.Goals as goal

pub invariant_of-self : goal.invariant_of-self
invariant_of-self g c = record {
  held = (received_left (model c.args.self.now.router c.as_mut_slice-pool.result.now) (model c.receive.new.self c.receive.new.pool) c.args.self.now.tickets.held.items c.args.self.now.held _ _ _ _ c.receive.ensures.does).0;
}

pub returns-then-pool-eq-POOL_LENGTH-clause-given :
    goal.returns-then-pool-eq-POOL_LENGTH-clause-given
returns-then-pool-eq-POOL_LENGTH-clause-given g c =
    let l = received_left (model c.args.self.now.router c.as_mut_slice-pool.result.now) (model c.receive.new.self c.receive.new.pool) c.args.self.now.tickets.held.items c.args.self.now.held _ _ _ _ c.in_ok-receive.ensures.does in
    fresh (model c.receive.new.self c.receive.new.pool) c.args.self.now.tickets.held.items c.in_ok-receive.field-0.delivery l.1 c.in_ok-receive.ensures.ticket

pub invariant_of-self-2 : goal.invariant_of-self-2
invariant_of-self-2 g c = record {
  held = (received_left (model c.args.self.now.router c.as_mut_slice-pool-2.result.now) (model c.receive-2.new.self c.receive-2.new.pool) c.args.self.now.tickets.held.items c.args.self.now.held _ _ _ _ c.receive-2.ensures.does).0;
}
