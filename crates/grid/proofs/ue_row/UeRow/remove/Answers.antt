use Rattle.std.proofs.Common.{◌≡◌, length, rules}
use Rattle.grid.proofs.Written.{held_removed}
use Rattle.grid.proofs.ue_row.UeRow.remove.Goals as goal

pub invariant_of-self : goal.invariant_of-self
invariant_of-self c =
    let x = c.args.self.now in
    let n : length x.places ≡ 15 = search rules in
    record { counted = held_removed x c.args.session c.from.result c.context.result c.from.ensures n c.context.ensures c.if-is_none.ensures }
