-- The rows of a control table, and the lines in them.
use Rattle.std.specs.Prelude.{ℕ, Bool, false, cond, not, ◌&&◌, List, is_some, Some, None, Option, nat_le, nat_lt}
use Rattle.std.specs.List.{find}
use Rattle.tables.specs.Lists.{sum_of}
use Rattle.tables.specs.Rows.{Apart}
use Rattle.control.specs.declared.control_key.ControlKey.{ControlKey}
use Rattle.control.specs.declared.control_key.ControlKey.TheVariants.{Dnn}
use Rattle.control.specs.declared.control_line.ControlLine.{ControlLine}
use Rattle.control.specs.declared.control_row.ControlRow.{ControlRow}
use Rattle.control.specs.Keys.{same_key}
use Rattle.control.specs.Octets.{octet_of}

abbrev pub is_free : ControlRow → Bool
is_free x = not (is_some x.held)

abbrev pub key_in_row : Option ControlLine → ControlKey
key_in_row None = Dnn 0
key_in_row (Some l) = l.key

abbrev pub key_of : ControlRow → ControlKey
key_of x = key_in_row x.held

abbrev pub held_has : ControlKey → Option ControlLine → Bool
held_has k None = false
held_has k (Some l) = same_key l.key k

-- the row has the line of this key
abbrev pub row_has : ControlKey → ControlRow → Bool
row_has k x = held_has k x.held

abbrev pub octet_in : Option ControlRow → Option ℕ
octet_in None = None
octet_in (Some x) = octet_of x.held

-- the back-off octet of the line of this key
abbrev pub back_off_of : List ControlRow → ControlKey → Option ℕ
back_off_of xs k = octet_in (find (row_has k) xs)

-- no two lines have the same key
abbrev pub Once : List ControlRow → Type 0
Once xs = Apart is_free key_of xs

-- how many lines there are
abbrev pub line_count : List ControlRow → ℕ
line_count xs = sum_of (λ x. cond (is_free x) 0 1) xs

-- how many rows a control table has at most
abbrev pub max_rows : ℕ
max_rows = 64

-- how many rows a control table may have
abbrev pub rows_fit : ℕ → Bool
rows_fit n = nat_lt 0 n && nat_le n max_rows
