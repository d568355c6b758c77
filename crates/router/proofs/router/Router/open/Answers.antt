use Rattle.std.proofs.lemmas.Result.{IfOk-weaker}
use Rattle.runs.specs.Runs.{opened}
use Rattle.runs.proofs.Whole.{law}
use Rattle.router.proofs.router.Router.open.Goals as goal

pub returns-clause-begins : goal.returns-clause-begins
returns-clause-begins g c =
    IfOk-weaker c.begin.result _ _ (λ r h p. record { runs = opened (h p); holds = law _ _ _ (opened (h p)) }) c.begin.ensures.opened
