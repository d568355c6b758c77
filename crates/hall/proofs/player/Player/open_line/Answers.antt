use Rattle.std.proofs.Common.{string_bytes}
use Rattle.std.proofs.lemmas.Result.{IfOk-weaker}
use Rattle.hall.specs.declared.verb.Verb.TheVariants as verbs
use Rattle.hall.specs.Ends.{outcome_of}
use Rattle.hall.proofs.Told.{told}
use Rattle.hall.proofs.player.Player.open_line.Goals as goal

pub returns : goal.returns
returns c =
    IfOk-weaker c.done_line.result _ _ (λ s h. told c.args.number verbs.Open (outcome_of c.open_router-done.result) (string_bytes s) h) c.done_line.ensures
