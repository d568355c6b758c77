use Rattle.std.proofs.Common.{rules, sym, subst}
use Rattle.control.specs.Controls.{Setting}
use Rattle.control.specs.Keys.{key_in}
use Rattle.control.proofs.Keyed.{key_known, set_told}
use Rattle.control.proofs.control_table.ControlTable.set.Goals as goal

pub returns-clause-set : goal.returns-clause-set
returns-clause-set c =
    let n = c.args.numbers in
    let xs = c.self.inside.table.rows.now in
    let ys = c.set.new.self.rows.now in
    let t = set_told c.in_ok-key.key c.args.back_off c.of.result c.of.ensures xs ys c.set.result c.map_err.result c.set.ensures (search rules) in
    subst (λ before. Setting (key_in n.kind n.slice n.dnn) c.args.back_off before ys c.map_err.result) c.self.view_is
    (subst (λ o. Setting o c.args.back_off xs ys c.map_err.result) (sym (key_known _ _ c.in_ok-key.ensures)) t)
