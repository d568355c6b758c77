-- What a command changes in the hall, as its words say it.
use Rattle.std.specs.Prelude.{ℕ, cond, List, [], ◌∷◌, length, Some, None, codes, Option, ◌==◌, nat_lt, slice_index_or}
use Rattle.std.specs.Option.{option_map}
use Rattle.std.specs.Str.{bytes_eq}
use Rattle.control.specs.declared.control_numbers.ControlNumbers.{ControlNumbers}
use Rattle.directories.specs.declared.service_line.ServiceLine.{ServiceLine}
use Rattle.scenario.specs.Number.{number_in}
use Rattle.scenario.specs.Octets.{octet_in, octets_in}
use Rattle.scenario.specs.Slice.{slice_in}
use Rattle.hall.specs.declared.change.StoreKind.{StoreKind}
use Rattle.hall.specs.declared.change.StoreKind.TheVariants.{Flat, Grid}
use Rattle.hall.specs.declared.directory_kind.DirectoryKind.{DirectoryKind}
use Rattle.hall.specs.declared.directory_state.DirectoryState.{DirectoryState}
use Rattle.hall.specs.Kinds.{kind_in, state_in}

pub data Change : Type 0 where
  book : List (List ℕ) → Change
  store : StoreKind → Change
  directory : DirectoryKind → Change
  serve : ServiceLine → Change
  mark : DirectoryState → Change
  control : ℕ → Change
  set : ControlNumbers → ℕ → Change
  clear : ControlNumbers → Change

-- f of what is there
abbrev pub where_some : {X Y : Type 0} → Option X → (X → Option Y) → Option Y
where_some None f = None
where_some (Some x) f = f x

-- a number that one octet holds
abbrev pub below_256 : ℕ → Option ℕ
below_256 n = cond (nat_lt n 256) (Some n) None

abbrev pub byte_in : List ℕ → Option ℕ
byte_in word = where_some (number_in word) below_256

-- the word at i
abbrev pub at : List (List ℕ) → ℕ → List ℕ
at words i = slice_index_or words i []

-- of just so many words
abbrev pub of_one : {X : Type 0} → (List ℕ → Option X) → List (List ℕ) → Option X
of_one f words = cond (length words == 1) (f (at words 0)) None

abbrev pub of_three : (List ℕ → List ℕ → List ℕ → Option Change) → List (List ℕ) → Option Change
of_three f words = cond (length words == 3) (f (at words 0) (at words 1) (at words 2)) None

abbrev pub of_four : (List ℕ → List ℕ → List ℕ → List ℕ → Option Change) → List (List ℕ) → Option Change
of_four f words = cond (length words == 4) (f (at words 0) (at words 1) (at words 2) (at words 3)) None

-- a name before others, where all are octets
abbrev pub name_before : Option (List ℕ) → Option (List (List ℕ)) → Option (List (List ℕ))
name_before None names = None
name_before (Some name) None = None
name_before (Some name) (Some names) = Some (name ∷ names)

-- the octets of each word
abbrev pub names_in : List (List ℕ) → Option (List (List ℕ))
names_in [] = Some []
names_in (word ∷ words) = name_before (octets_in word) (names_in words)

abbrev pub book_words : List (List ℕ) → Option Change
book_words words = cond (length words == 0) None (option_map book (names_in words))

abbrev pub grid_of : List ℕ → Option Change
grid_of kind = cond (bytes_eq kind (codes "grid")) (Some (store Grid)) None

abbrev pub flat_of : List ℕ → List ℕ → Option Change
flat_of kind rows =
    cond (bytes_eq kind (codes "flat")) (where_some (number_in rows) (λ n. Some (store (Flat n)))) None

abbrev pub store_words : List (List ℕ) → Option Change
store_words words =
    cond (length words == 1) (grid_of (at words 0))
    (cond (length words == 2) (flat_of (at words 0) (at words 1)) None)

abbrev pub directory_words : List (List ℕ) → Option Change
directory_words words = option_map directory (of_one kind_in words)

unfoldable pub line_of : List ℕ → List ℕ → List ℕ → Option ServiceLine
line_of s n m =
    where_some (slice_in s) (λ slice. where_some (byte_in n) (λ dnn. where_some (byte_in m) (λ smf.
    Some (record { slice = slice; dnn = dnn; smf = smf }))))

abbrev pub serve_of : List ℕ → List ℕ → List ℕ → Option Change
serve_of s n m = where_some (line_of s n m) (λ line. Some (serve line))

abbrev pub serve_words : List (List ℕ) → Option Change
serve_words words = of_three serve_of words

abbrev pub mark_words : List (List ℕ) → Option Change
mark_words words = option_map mark (of_one state_in words)

abbrev pub control_of : List ℕ → Option Change
control_of rows = where_some (number_in rows) (λ n. Some (control n))

abbrev pub control_words : List (List ℕ) → Option Change
control_words words = of_one control_of words

abbrev pub numbers_of : List ℕ → List ℕ → List ℕ → Option ControlNumbers
numbers_of k s n =
    where_some (byte_in k) (λ kind. where_some (slice_in s) (λ slice. where_some (byte_in n) (λ dnn.
    Some (record { kind = kind; slice = slice; dnn = dnn }))))

abbrev pub set_of : List ℕ → List ℕ → List ℕ → List ℕ → Option Change
set_of k s n b = where_some (numbers_of k s n) (λ line. where_some (octet_in b) (λ octet. Some (set line octet)))

abbrev pub set_words : List (List ℕ) → Option Change
set_words words = of_four set_of words

abbrev pub clear_of : List ℕ → List ℕ → List ℕ → Option Change
clear_of k s n = where_some (numbers_of k s n) (λ line. Some (clear line))

abbrev pub clear_words : List (List ℕ) → Option Change
clear_words words = of_three clear_of words
