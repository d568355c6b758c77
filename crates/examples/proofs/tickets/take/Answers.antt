use Rattle.std.proofs.Common.{[]}
use Rattle.examples.proofs.OpenTickets.{taken}
use Rattle.examples.proofs.tickets.take.Goals as goal

pub unreachable-requires : goal.unreachable-requires
unreachable-requires g c = taken _ _ _ _ c.requires (c.in-Err.ensures.does [])
