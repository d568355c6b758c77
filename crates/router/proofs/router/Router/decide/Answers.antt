use Rattle.nas.specs.Views.{decoded}
use Rattle.router.specs.Receiving.{judged_by}
use Rattle.router.specs.Views.{core}
use Rattle.router.proofs.Deciding.{choice, bounded}
use Rattle.router.proofs.router.Router.decide.Goals as goal

pub returns-clause-choice : goal.returns-clause-choice
returns-clause-choice g c =
    let r = judged_by g.D.Directory c.args.ue c.args.controls.now c.args.directory.now in
    choice (core c.args.self.now) _ r (decoded c.args.uplink.now) _ _ c.judge.ensures.judged (g.met.D.Directory.lawful c.args.directory.now)

pub returns-clause-bounded : goal.returns-clause-bounded
returns-clause-bounded g c =
    let r = judged_by g.D.Directory c.args.ue c.args.controls.now c.args.directory.now in
    bounded (core c.args.self.now) _ r (decoded c.args.uplink.now) _ _ c.judge.ensures.judged c.args.self.now.named.few c.requires.ue_in c.args.self.now.configured c.requires.session (g.met.S.Store.laws c.args.self.now.store).bounds (g.met.D.Directory.lawful c.args.directory.now)
