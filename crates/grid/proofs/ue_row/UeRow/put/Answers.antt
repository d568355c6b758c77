use Rattle.std.proofs.Common.{◌≡◌, ◌&&◌, ltb, length, arith, rules}
use Rattle.std.proofs.lemmas.Bool.{and_parts}
use Rattle.grid.proofs.Written.{added_most, held_most, held_put}
use Rattle.grid.proofs.ue_row.UeRow.put.Goals as goal

pub overflow_add-self : goal.overflow_add-self
overflow_add-self c =
    let m = held_most c.args.self.now in
    let b = added_most c.is_none.result in
    let e = c.from.ensures in
    omega (arith, m, b, e)

pub invariant_of-self : goal.invariant_of-self
invariant_of-self c =
    let x = c.args.self.now in
    let k = c.args.context.session in
    let r = (and_parts (ltb 0 c.args.context.ue) (ltb 0 k && ltb k 16) c.requires).1 in
    let n : length x.places ≡ 15 = search rules in
    record { counted = held_put x k c.from-3.result c.from-2.result c.context.result c.is_none.result c.from.result c.from-3.ensures r n c.context.ensures c.is_none.ensures c.from.ensures }
