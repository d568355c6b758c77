use Rattle.runs.proofs.Handed.{fails}
use Rattle.runs.proofs.Whole.{lawful}
use Rattle.router.specs.Views.{model}
use Rattle.router.proofs.router.Router.failed.Goals as goal

pub returns-clause-lawful : goal.returns-clause-lawful
returns-clause-lawful g c =
    λ o p handed. lawful o _ _ _ (fails (model c.args.self.now c.args.pool.now) (model c.fail.new.self c.args.pool.now) _ _ _ p handed c.fail.ensures.does)
