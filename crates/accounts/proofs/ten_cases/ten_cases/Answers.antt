use Rattle.accounts.proofs.Cases.{cases}
use Rattle.accounts.proofs.ten_cases.ten_cases.Goals as goal

pub returns : goal.returns
returns c = cases
