use Rattle.flat.proofs.Tells.{put_tells}
use Rattle.flat.proofs.flat_store.FlatStoreStore.put.Goals as goal

pub returns : goal.returns
returns c =
    let y = c.in_ok-row.ensures in
    let t = put_tells c.args.context c.in_ok-row.row y.1 y.0 c.args.self.now.table.rows.now c.set.new.self.rows.now c.set.result c.set.ensures in
    rw c.or.ensures (record { room = t.room; puts = t.puts; floor = t.long })
