use Rattle.std.proofs.Common.{refl}
use Rattle.runs.proofs.Handed.{receives}
use Rattle.runs.proofs.Whole.{lawful}
use Rattle.router.specs.Views.{model}
use Rattle.router.proofs.router.Router.receive.Goals as goal

pub returns-clause-lawful : goal.returns-clause-lawful
returns-clause-lawful g c =
    λ o p handed. lawful o _ _ _ (receives (model c.args.self.now c.args.pool.now) (model c.accept.new.self c.accept.new.pool) _ _ _ _ p refl handed c.accept.ensures.does)
