-- The places of a row: what stands at a session, and how many are filled.
use Rattle.std.specs.Prelude.{ℕ, ◌-◌, cond, ◌&&◌, List, is_some, None, Option, nat_lt, slice_index_or}
use Rattle.std.specs.List.{count_by}
use Rattle.stores.specs.Contexts.{sessions}
use Rattle.grid.specs.declared.place.Place.{Place}

-- what stands at session k
abbrev pub place_at : List (Option Place) → ℕ → Option Place
place_at ps k = cond (nat_lt 0 k && nat_lt k 16) (slice_index_or ps (k - 1) None) None

-- how many sessions have a filled place
abbrev pub held_count : List (Option Place) → ℕ
held_count ps = count_by (λ k. is_some (place_at ps k)) sessions
