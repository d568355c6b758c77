-- The rows of a store keep to what its fields say.
use Rattle.grid.specs.declared.grid_store.GridStore.{GridStore}
use Rattle.grid.specs.Laws.{Sound}

pub sound_of : (s : GridStore) → Sound s.rows
sound_of s = record { size = s.size; apart = s.apart; bounds = s.bounds }
