use Rattle.grid.proofs.Rooms.{empty_tells}
use Rattle.grid.proofs.grid_store.GridStoreStore.is_empty.Goals as goal

pub returns : goal.returns
returns c = empty_tells c.args.self.now.rows c.all_free.result c.all_free.ensures
