use Rattle.runs.proofs.Handed.{hands_out}
use Rattle.runs.proofs.Whole.{lawful}
use Rattle.router.specs.Views.{model}
use Rattle.router.proofs.router.Router.payload.Goals as goal

pub returns-clause-lawful : goal.returns-clause-lawful
returns-clause-lawful g c =
    λ o p handed. lawful o _ _ _ (hands_out (model c.args.self.now c.args.pool.now) _ _ p handed c.hand_out.ensures)
