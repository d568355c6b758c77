use Rattle.std.proofs.Common.{[]}
use Rattle.examples.proofs.OpenTickets.{picked}
use Rattle.examples.proofs.tickets.pick.Goals as goal

pub returns-in-Ok : goal.returns-in-Ok
returns-in-Ok g c = picked _ _ _ _ (c.in-Ok.ensures.does [])
