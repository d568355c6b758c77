-- The contexts in rows of one UE each.
use Rattle.std.specs.Prelude.{◌≡◌, ℕ, ◌-◌, Bool, not, ◌&&◌, ◌||◌, List, length, is_some, Option, ◌==◌, slice_set}
use Rattle.std.specs.List.{find, count_by, filter_map, flat_map}
use Rattle.std.specs.Option.{option_map}
use Rattle.stores.specs.declared.context.Context.{Context}
use Rattle.stores.specs.Contexts.{pair_fits, sessions, is_emergency}
use Rattle.grid.specs.declared.place.Place.{Place}
use Rattle.grid.specs.declared.ue_row.UeRow.{UeRow}
use Rattle.grid.specs.Held.{place_at}

abbrev pub place_of : Context → Place
place_of c = record { smf = c.smf; emergency = c.emergency; slice = c.slice; dnn = c.dnn }

-- the context of session k of UE u that the place keeps
abbrev pub context_of : ℕ → ℕ → Place → Context
context_of u k p = record { ue = u; session = k; smf = p.smf; emergency = p.emergency; slice = p.slice; dnn = p.dnn }

-- the context of session k in the row
abbrev pub context_at : UeRow → ℕ → Option Context
context_at x k = option_map (context_of x.ue k) (place_at x.places k)

-- session j is another one than session k, and has a context in the row
abbrev pub other_in : UeRow → ℕ → ℕ → Bool
other_in x k j = not (j == k) && is_some (context_at x j)

abbrev pub others_in : UeRow → ℕ → ℕ
others_in x k = count_by (other_in x k) sessions

-- session j is another one than session k, and has an emergency context in the row
abbrev pub emergency_in : UeRow → ℕ → ℕ → Bool
emergency_in x k j = not (j == k) && is_emergency (context_at x j)

-- no session has a context in the row
abbrev pub is_free : UeRow → Bool
is_free x = others_in x 0 == 0

abbrev pub ue_of : UeRow → ℕ
ue_of x = x.ue

-- y is the row x as UE u's, with this at session k
pub record Writes (x y : UeRow) (u k : ℕ) (o : Option Place) : Type 0 where
  pub long : length x.places ≡ 15
  pub ue : y.ue ≡ u
  pub places : y.places ≡ slice_set x.places (k - 1) o

-- the contexts in the row, by session
abbrev pub contexts_of : UeRow → List Context
contexts_of x = filter_map (context_at x) sessions

-- the contexts in the rows, by row and session
abbrev pub contexts_in : List UeRow → List Context
contexts_in xs = flat_map contexts_of xs

-- the row is in use, and UE u's
abbrev pub serves : ℕ → UeRow → Bool
serves u x = not (is_free x) && x.ue == u

-- the pair is in bounds, and the UE has a row or a row is empty
abbrev pub room_in : List UeRow → ℕ → ℕ → Bool
room_in xs u k = pair_fits u k && (is_some (find (serves u) xs) || is_some (find is_free xs))
