use Rattle.std.proofs.Common.{replicate, refl}
use Rattle.grid.proofs.Tells.{copies_free, free_apart, free_bounded}
use Rattle.grid.proofs.grid_store.GridStore.new.Goals as goal

pub invariant_of-result : goal.invariant_of-result
invariant_of-result c =
    let f = copies_free 32 c.new.result c.new.ensures in
    record { size = refl; apart = free_apart (replicate 32 c.new.result) f; bounds = free_bounded (replicate 32 c.new.result) f }
