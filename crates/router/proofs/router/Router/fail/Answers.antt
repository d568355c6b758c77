use Rattle.std.proofs.Common.{sym}
use Rattle.router.proofs.Failing.{fails}
use Rattle.router.proofs.router.Router.fail.Goals as goal

pub returns-in-Ok-clause-does : goal.returns-in-Ok-clause-does
returns-in-Ok-clause-does g c =
    fails _ _ _ _ _ _ c.in-Some.flight _ _ _ c.if-pool-ne-POOL_LENGTH.false (sym c.in-Some.ensures.value) c.slot_part-payload.ensures.octets c.slot_part-payload.ensures.length c.in-Ok.ensures.value c.in-Ok.ensures.octets (c.undo.ensures.does _)
