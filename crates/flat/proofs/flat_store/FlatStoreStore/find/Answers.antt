use Rattle.std.proofs.Common.{sym, ap, ◌∙◌}
use Rattle.flat.specs.declared.context_row.ContextRow.{ContextRow}
use Rattle.flat.proofs.Tells.{found_held}
use Rattle.flat.proofs.flat_store.FlatStoreStore.find.Goals as goal

pub returns : goal.returns
returns c =
    let g = c.in_ok-row.ensures in
    let x = c.in_ok-row.field-0.now in
    ap (λ (y : ContextRow). y.held) (g.2 x) ∙ sym (found_held c.args.self.now.table.rows.now c.args.session.ue c.args.session.id g.0 x g.1)
