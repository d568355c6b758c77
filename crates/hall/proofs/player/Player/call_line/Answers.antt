use Rattle.std.proofs.Common.{string_bytes, subst}
use Rattle.std.proofs.lemmas.Result.{IfOk-weaker}
use Rattle.std.specs.Result.{IfOk}
use Rattle.hall.specs.Calls.{called}
use Rattle.hall.specs.Ends.{reason}
use Rattle.hall.specs.Outcomes.{TellsDone}
use Rattle.hall.proofs.Told.{not_called}
use Rattle.hall.proofs.player.Player.call_line.Goals as goal

pub returns-in-Err : goal.returns-in-Err
returns-in-Err c =
    IfOk-weaker c.not_done_line.result _ _ (λ s h. not_called c.args.number (called c.args.call.now) c.in-Err.not_done (string_bytes s) h)
    (subst (λ v. IfOk c.not_done_line.result (λ s. TellsDone c.args.number v (reason c.in-Err.not_done) (string_bytes s))) c.verb.ensures c.not_done_line.ensures)
