use Rattle.std.proofs.Common.{sym, subst}
use Rattle.control.specs.Keys.{key_in}
use Rattle.hall.specs.Asked.{wanted}
use Rattle.hall.specs.Ends.{Accepted}
use Rattle.hall.specs.Effects.{OutcomeFor}
use Rattle.hall.proofs.Setting.{set_accepted}
use Rattle.hall.proofs.hall.Hall.apply.Goals as goal

pub returns-in_ok-set-in-Set-clause-outcome : goal.returns-in_ok-set-in-Set-clause-outcome
returns-in_ok-set-in-Set-clause-outcome c =
    let n = c.in-Set.numbers in
    subst (λ ch. OutcomeFor c.args.self.now.directory c.args.table.now (wanted ch) Accepted) (sym c.in-Set.is)
    (set_accepted (key_in n.kind n.slice n.dnn) _ _ _ c.set.result _ c.set.ensures.set c.in_ok-set-in-Set.was)
