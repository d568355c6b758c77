use Rattle.runs.proofs.Whole.{law}
use Rattle.runs.proofs.law_over_runs.Goals as goal

pub returns : goal.returns
returns c = law
