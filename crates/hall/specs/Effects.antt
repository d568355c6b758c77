-- What comes of a change, by the directory and the rows of the control table that stand before it.
use Rattle.std.specs.Prelude.{◌≡◌, ℕ, Bool, true, false, cond, List, [], length, is_some, Some, None, vec_items, Option, ◌==◌}
use Rattle.codes.specs.Refusals.{refusal_number}
use Rattle.codes.specs.declared.setup_error.SetupError.{SetupError}
use Rattle.codes.specs.declared.setup_error.SetupError.TheVariants as setup
use Rattle.codes.specs.declared.refusal.Refusal.TheVariants.{Opening, ControlKind, ControlFull}
use Rattle.names.specs.Names.{GoodNames}
use Rattle.names.specs.declared.book.Book.{Book}
use Rattle.flat.specs.Held as flat
use Rattle.control.specs.Controls.{Set, Cleared}
use Rattle.control.specs.Keys.{key_in}
use Rattle.control.specs.Lines as control_lines
use Rattle.control.specs.Lines.{back_off_of, line_count}
use Rattle.control.specs.declared.control_key.ControlKey.{ControlKey}
use Rattle.control.specs.declared.control_row.ControlRow.{ControlRow}
use Rattle.directories.specs.Additions.{Added, Joined}
use Rattle.directories.specs.Lines.{lines_refuse}
use Rattle.directories.specs.Sets.{sets_refuse}
use Rattle.directories.specs.declared.service_line.ServiceLine.{ServiceLine}
use Rattle.hall.specs.declared.directory_kind.DirectoryKind.{DirectoryKind}
use Rattle.hall.specs.declared.directory_kind.DirectoryKind.TheVariants as asked_kinds
use Rattle.hall.specs.declared.change.StoreKind.{StoreKind}
use Rattle.hall.specs.declared.change.StoreKind.TheVariants.{Flat, Grid}
use Rattle.hall.specs.declared.directory.HallDirectory.{HallDirectory}
use Rattle.hall.specs.declared.directory.HallDirectory.TheVariants as kinds
use Rattle.hall.specs.Ends.{Outcome, Accepted, Refused, Misplaced}
use Rattle.hall.specs.Changes.{Change, book, store, directory, serve, mark, control, set, clear}

-- good names make a book, and all others are refused
abbrev pub BookOutcome : List (List ℕ) → Outcome → Type 0
BookOutcome names Accepted = GoodNames names
BookOutcome names (Refused n) = (n ≡ refusal_number Opening) × (GoodNames names → ⊥)
BookOutcome names Misplaced = ⊥

-- accepted where b, and else refused as out of bounds
abbrev pub opens : Bool → Outcome
opens b = cond b Accepted (Refused (refusal_number Opening))

abbrev pub store_outcome : StoreKind → Outcome
store_outcome (Flat rows) = opens (flat.rows_fit rows)
store_outcome Grid = Accepted

abbrev pub refuses : HallDirectory → ServiceLine → Bool
refuses (kinds.List d) line = lines_refuse (vec_items d.lines) line
refuses (kinds.Turning d) line = sets_refuse (vec_items d.sets) line

-- why a line was not added, b being whether it is one to refuse
abbrev pub NotAdded : Bool → SetupError → Type 0
NotAdded b (setup.Refused r) = (b ≡ true) × (refusal_number r ≡ refusal_number Opening)
NotAdded b setup.OutOfMemory = b ≡ false

abbrev pub serve_outcome : Option HallDirectory → ServiceLine → Outcome
serve_outcome None line = Misplaced
serve_outcome (Some d) line = cond (refuses d line) (Refused (refusal_number Opening)) Accepted

-- it can be opened and closed
abbrev pub turns : HallDirectory → Bool
turns (kinds.List d) = false
turns (kinds.Turning d) = true

abbrev pub mark_outcome : Option HallDirectory → Outcome
mark_outcome None = Misplaced
mark_outcome (Some d) = cond (turns d) Accepted Misplaced

-- a key that is new needs a free row
abbrev pub set_outcome : Option ControlKey → List ControlRow → Outcome
set_outcome None rows = Refused (refusal_number ControlKind)
set_outcome (Some k) rows =
    cond (is_some (back_off_of rows k)) Accepted
    (cond (line_count rows == length rows) (Refused (refusal_number ControlFull)) Accepted)

abbrev pub clear_outcome : Option ControlKey → List ControlRow → Outcome
clear_outcome None rows = Refused (refusal_number ControlKind)
clear_outcome (Some k) rows = cond (is_some (back_off_of rows k)) Accepted (Refused (refusal_number ControlKind))

-- ---- what stands after it

-- the new value where it was accepted, and else the old one
abbrev pub after : {X : Type 0} → Outcome → X → X → X
after Accepted new old = new
after (Refused r) new old = old
after Misplaced new old = old

abbrev pub has_names : List (List ℕ) → Option Book → Type 0
has_names names None = ⊥
has_names names (Some b) = b ≡ names

-- a book of just these names, or the one that there was
abbrev pub BookAfter : List (List ℕ) → Outcome → Option Book → Option Book → Type 0
BookAfter names Accepted old new = has_names names new
BookAfter names (Refused r) old new = new ≡ old
BookAfter names Misplaced old new = new ≡ old

-- a directory of this kind with no lines, and open
abbrev pub NewDirectory : DirectoryKind → Option HallDirectory → Type 0
NewDirectory kind None = ⊥
NewDirectory kind (Some (kinds.List d)) = (kind ≡ asked_kinds.List) × (vec_items d.lines ≡ [])
NewDirectory kind (Some (kinds.Turning d)) = (kind ≡ asked_kinds.Turning) × (vec_items d.sets ≡ []) × (d.last ≡ 0) × (d.is_open ≡ true)

-- the same lines
abbrev pub SameLines : HallDirectory → HallDirectory → Type 0
SameLines (kinds.List d) (kinds.List e) = vec_items e.lines ≡ vec_items d.lines
SameLines (kinds.List d) (kinds.Turning e) = ⊥
SameLines (kinds.Turning d) (kinds.List e) = ⊥
SameLines (kinds.Turning d) (kinds.Turning e) = vec_items e.sets ≡ vec_items d.sets

-- one line more
abbrev pub MoreLines : HallDirectory → ServiceLine → HallDirectory → Type 0
MoreLines (kinds.List d) line (kinds.List e) = Added (vec_items d.lines) line (vec_items e.lines)
MoreLines (kinds.List d) line (kinds.Turning e) = ⊥
MoreLines (kinds.Turning d) line (kinds.List e) = ⊥
MoreLines (kinds.Turning d) line (kinds.Turning e) = Joined (vec_items d.sets) line (vec_items e.sets)

-- the same lines, and open or closed as it was marked, if it can be
abbrev pub Marked : HallDirectory → Bool → HallDirectory → Type 0
Marked (kinds.List d) is (kinds.List e) = vec_items e.lines ≡ vec_items d.lines
Marked (kinds.List d) is (kinds.Turning e) = ⊥
Marked (kinds.Turning d) is (kinds.List e) = ⊥
Marked (kinds.Turning d) is (kinds.Turning e) = (vec_items e.sets ≡ vec_items d.sets) × (e.is_open ≡ is)

abbrev pub Served : ServiceLine → Outcome → Option HallDirectory → Option HallDirectory → Type 0
Served line o None None = Unit {0}
Served line o None (Some e) = ⊥
Served line o (Some d) None = ⊥
Served line Accepted (Some d) (Some e) = MoreLines d line e
Served line (Refused r) (Some d) (Some e) = SameLines d e
Served line Misplaced (Some d) (Some e) = SameLines d e

abbrev pub MarkedIf : Bool → Option HallDirectory → Option HallDirectory → Type 0
MarkedIf is None None = Unit {0}
MarkedIf is None (Some e) = ⊥
MarkedIf is (Some d) None = ⊥
MarkedIf is (Some d) (Some e) = Marked d is e

-- the rows after a line was to be set: the table says what an accepted one changes
abbrev pub RowsSet : Option ControlKey → ℕ → List ControlRow → Outcome → List ControlRow → Type 0
RowsSet None octet xs o ys = ys ≡ xs
RowsSet (Some k) octet xs Accepted ys = Set k octet xs ys
RowsSet (Some k) octet xs (Refused r) ys = ys ≡ xs
RowsSet (Some k) octet xs Misplaced ys = ys ≡ xs

abbrev pub RowsCleared : Option ControlKey → List ControlRow → Outcome → List ControlRow → Type 0
RowsCleared None xs o ys = ys ≡ xs
RowsCleared (Some k) xs Accepted ys = Cleared k xs ys
RowsCleared (Some k) xs (Refused r) ys = ys ≡ xs
RowsCleared (Some k) xs Misplaced ys = ys ≡ xs

-- ---- all changes

abbrev pub OutcomeFor : Option HallDirectory → List ControlRow → Change → Outcome → Type 0
OutcomeFor d rows (book names) o = BookOutcome names o
OutcomeFor d rows (store kind) o = o ≡ store_outcome kind
OutcomeFor d rows (directory kind) o = o ≡ Accepted
OutcomeFor d rows (serve line) o = o ≡ serve_outcome d line
OutcomeFor d rows (mark is) o = o ≡ mark_outcome d
OutcomeFor d rows (control n) o = o ≡ opens (control_lines.rows_fit n)
OutcomeFor d rows (set line octet) o = o ≡ set_outcome (key_in line.kind line.slice line.dnn) rows
OutcomeFor d rows (clear line) o = o ≡ clear_outcome (key_in line.kind line.slice line.dnn) rows

abbrev pub RowsAfter : List ControlRow → Change → Outcome → List ControlRow → Type 0
RowsAfter xs (book names) o ys = ys ≡ xs
RowsAfter xs (store kind) o ys = ys ≡ xs
RowsAfter xs (directory kind) o ys = ys ≡ xs
RowsAfter xs (serve line) o ys = ys ≡ xs
RowsAfter xs (mark is) o ys = ys ≡ xs
RowsAfter xs (control n) o ys = ys ≡ xs
RowsAfter xs (set line octet) o ys = RowsSet (key_in line.kind line.slice line.dnn) octet xs o ys
RowsAfter xs (clear line) o ys = RowsCleared (key_in line.kind line.slice line.dnn) xs o ys
