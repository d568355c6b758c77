use Rattle.std.proofs.Common.{[]}
use Rattle.examples.proofs.OpenTickets.{parked}
use Rattle.examples.proofs.tickets.park.Goals as goal

pub unreachable-requires : goal.unreachable-requires
unreachable-requires g c = parked _ _ _ _ c.requires (c.in-Err.ensures.does [])
