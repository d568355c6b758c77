use Rattle.std.proofs.Common.{sym, ap, ◌∙◌}
use Rattle.grid.specs.declared.ue_row.UeRow.{UeRow}
use Rattle.grid.specs.Grids.{context_at}
use Rattle.grid.specs.Rows.{found_at, absent_at}
use Rattle.grid.proofs.grid_store.GridStoreStore.find.Goals as goal

pub returns-in_err-row_of : goal.returns-in_err-row_of
returns-in_err-row_of c =
    let s = c.args.self.now in
    c.from_residual.ensures ∙ sym (absent_at s.rows c.args.session.ue s.apart c.in_err-row_of.ensures c.args.session.id)

pub returns : goal.returns
returns c =
    let s = c.args.self.now in
    let g = c.in_ok-row_of.ensures in
    let x = c.in_ok-row_of.field-0.now in
    c.context.ensures ∙ ap (λ (y : UeRow). context_at y c.args.session.id) (g.2 x) ∙ sym (found_at s.rows c.args.session.ue g.0 x s.apart g.1 c.args.session.id)
