use Rattle.std.proofs.Common.{ap, ◌∙◌}
use Rattle.std.specs.List.{find}
use Rattle.stores.specs.Contexts.{sessions, emergency_at}
use Rattle.stores.proofs.Lowests.{lowest_of}
use Rattle.grid.specs.declared.ue_row.UeRow.{UeRow}
use Rattle.grid.specs.Grids.{contexts_in, emergency_in}
use Rattle.grid.proofs.Tells.{lowest_found, lowest_absent}
use Rattle.grid.proofs.grid_store.GridStoreStore.lowest_other_emergency.Goals as goal

pub returns-in_err-row_of : goal.returns-in_err-row_of
returns-in_err-row_of c =
    let s = c.args.self.now in
    let k = c.args.session in
    let e = c.from_residual.ensures ∙ lowest_absent s.rows k.ue k.id s.apart c.in_err-row_of.ensures in
    record { value = e; lowest = lowest_of (emergency_at (contexts_in s.rows) k.ue k.id) c.from_residual.result e }

pub returns : goal.returns
returns c =
    let s = c.args.self.now in
    let k = c.args.session in
    let g = c.in_ok-row_of.ensures in
    let x = c.in_ok-row_of.field-0.now in
    let e = c.lowest_other_emergency.ensures ∙ ap (λ (y : UeRow). find (emergency_in y k.id) sessions) (g.2 x) ∙ lowest_found s.rows k.ue k.id s.apart g.0 x g.1 in
    record { value = e; lowest = lowest_of (emergency_at (contexts_in s.rows) k.ue k.id) c.lowest_other_emergency.result e }
