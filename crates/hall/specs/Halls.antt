-- What stands in the hall after a change.
use Rattle.std.specs.Prelude.{◌≡◌, ℕ, true, List, Option, None, Some, length}
use Rattle.control.specs.declared.control_row.ControlRow.{ControlRow}
use Rattle.control.specs.Controls.{Empty}
use Rattle.control.specs.Lines.{rows_fit}
use Rattle.hall.specs.declared.hall.Hall.{Hall}
use Rattle.hall.specs.Ends.{Outcome}
use Rattle.hall.specs.Changes.{Change, book, store, directory, serve, mark, control, set, clear}
use Rattle.hall.specs.Kinds.{is_open}
use Rattle.hall.specs.Effects.{after, BookAfter, NewDirectory, Served, MarkedIf}

abbrev pub SameBook : Hall → Hall → Type 0
SameBook h g = g.book ≡ h.book

abbrev pub SameStore : Hall → Hall → Type 0
SameStore h g = g.store ≡ h.store

abbrev pub SameDirectory : Hall → Hall → Type 0
SameDirectory h g = g.directory ≡ h.directory

abbrev pub SameRows : Hall → Hall → Type 0
SameRows h g = g.wanted_rows ≡ h.wanted_rows

-- one thing as the change and its outcome have it, and all else as it was
abbrev pub HallAfter : Hall → Change → Outcome → Hall → Type 0
HallAfter h (book names) o g =
    BookAfter names o h.book g.book × SameStore h g × SameDirectory h g × SameRows h g
HallAfter h (store kind) o g =
    (g.store ≡ after o (Some kind) h.store) × SameBook h g × SameDirectory h g × SameRows h g
HallAfter h (directory kind) o g =
    NewDirectory kind g.directory × SameBook h g × SameStore h g × SameRows h g
HallAfter h (serve line) o g =
    Served line o h.directory g.directory × SameBook h g × SameStore h g × SameRows h g
HallAfter h (mark is) o g =
    MarkedIf (is_open is) h.directory g.directory × SameBook h g × SameStore h g × SameRows h g
HallAfter h (control rows) o g =
    (g.wanted_rows ≡ after o (Some rows) h.wanted_rows) × SameBook h g × SameStore h g × SameDirectory h g
HallAfter h (set line octet) o g = g ≡ h
HallAfter h (clear line) o g = g ≡ h

-- the control table that stands once the rows that were wanted are there: where so many make one, a new and empty one
abbrev pub Renewed : Option ℕ → List ControlRow → List ControlRow → Type 0
Renewed None before now = now ≡ before
Renewed (Some rows) before now = rows_fit rows ≡ true → (length now ≡ rows) × Empty now
