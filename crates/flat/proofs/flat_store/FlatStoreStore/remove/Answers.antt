use Rattle.flat.proofs.Tells.{remove_tells}
use Rattle.flat.proofs.flat_store.FlatStoreStore.remove.Goals as goal

pub returns : goal.returns
returns c =
    let t = c.args.self.now.table in
    let g = remove_tells c.args.session.ue c.args.session.id t.rows.now c.remove_row.new.table.rows.now t.apart c.remove_row.result c.remove_row.ensures in
    record { removes = g.removes; floor = g.long }
