use Rattle.std.proofs.Common.{string_bytes, subst}
use Rattle.std.proofs.lemmas.Result.{IfOk-weaker}
use Rattle.std.specs.Result.{IfOk}
use Rattle.hall.specs.Ends.{outcome_of}
use Rattle.hall.specs.Outcomes.{TellsDone}
use Rattle.hall.specs.Replies.{note_verb}
use Rattle.hall.proofs.Told.{told}
use Rattle.hall.proofs.player.Player.note_line.Goals as goal

pub returns : goal.returns
returns c =
    IfOk-weaker c.done_line.result _ _ (λ s h. told c.args.number (note_verb c.args.note) (outcome_of c.enter-done.result) (string_bytes s) h)
    (subst (λ v. IfOk c.done_line.result (λ s. TellsDone c.args.number v (outcome_of c.enter-done.result) (string_bytes s))) c.verb.ensures c.done_line.ensures)
