use Rattle.verdicts.proofs.Lawful.{judged}
use Rattle.verdicts.proofs.judgement.judge.Goals as goal

pub returns-clause-judged : goal.returns-clause-judged
returns-clause-judged g c = judged _ _ _ _ _ c.rule.ensures.value c.rule.ensures.directory.choice
