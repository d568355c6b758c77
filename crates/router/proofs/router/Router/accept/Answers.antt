use Rattle.std.proofs.Common.{sym}
use Rattle.router.specs.Receiving.{heard}
use Rattle.router.specs.Views.{model}
use Rattle.router.proofs.Accepting.{accepts}
use Rattle.router.proofs.router.Router.accept.Goals as goal

pub returns-clause-does : goal.returns-clause-does
returns-clause-does g c =
    let r = heard g.D.Directory c.args.ue c.args.controls.now c.args.directory.now c.args.pool.now c.args.output.now c.args.message.now in
    accepts (model c.args.self.now c.args.pool.now) _ r c.handle.result.verdict _ _ _ (sym c.in_ok-admission.ensures.value) c.in_ok-admission.ensures.reads (c.handle.ensures.answer c.args.message.now) (c.handle.ensures.accepted c.args.message.now)
