use Rattle.std.proofs.Common.{arith}
use Rattle.scenario.proofs.Decimals.{number_back, no_text}
use Rattle.scenario.proofs.number.parse_number.Goals as goal

pub returns-in_err-ok-clause-value : goal.returns-in_err-ok-clause-value
returns-in_err-ok-clause-value c = grind (arith, no_text)

pub returns-in_err-ok-clause-reads_back : goal.returns-in_err-ok-clause-reads_back
returns-in_err-ok-clause-reads_back c = grind (arith, no_text, number_back)
