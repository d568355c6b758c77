-- Service lines: which are good, which serve, and which of them comes first.
use Rattle.std.specs.Prelude.{◌≡◌, ℕ, ◌<◌, Bool, true, false, cond, not, ◌&&◌, ◌||◌, List, [], ◌∷◌, length, ◌==◌, nat_le, nat_lt, All, HoldsAt}
use Rattle.std.specs.List.{list_any, AllWithin}
use Rattle.directories.specs.declared.service_line.ServiceLine.{ServiceLine}

-- how many lines a list directory holds at most, and how many pairs of a slice and an SMF a turning one does
abbrev pub capacity : ℕ
capacity = 64

-- a DNN number that a line can have
abbrev pub numbered : ℕ → Bool
numbered n = nat_lt 0 n && nat_le n 64

abbrev pub good_line : ServiceLine → Bool
good_line l = numbered l.dnn && nat_lt 0 l.smf

-- the line is for slice s and DNN n
abbrev pub line_for : ServiceLine → ℕ → ℕ → Bool
line_for l s n = l.slice == s && l.dnn == n

-- by the line, SMF m serves slice s and DNN n
abbrev pub line_serves : ServiceLine → ℕ → ℕ → ℕ → Bool
line_serves l s n m = line_for l s n && l.smf == m

abbrev pub lines_serve : List ServiceLine → ℕ → ℕ → ℕ → Bool
lines_serve lines s n m = list_any (λ l. line_serves l s n m) lines

-- m is the SMF of the first line for slice s and DNN n
unfoldable pub takes_first : List ServiceLine → ℕ → ℕ → ℕ → Bool
takes_first [] s n m = false
takes_first (l ∷ lines) s n m = cond (line_for l s n) (l.smf == m) (takes_first lines s n m)

-- no line is for slice s and DNN n
abbrev pub NoneFor : List ServiceLine → ℕ → ℕ → Type 0
NoneFor lines s n = All (λ l. line_for l s n ≡ false) lines

-- line i is the first for slice s and DNN n
pub record First (lines : List ServiceLine) (s n i : ℕ) : Type 0 where
  pub within : i < length lines
  pub here : HoldsAt (λ l. line_for l s n ≡ true) lines i
  pub before : AllWithin (λ l. line_for l s n ≡ false) lines 0 i

-- what a list of these lines refuses: a bad line, and one more than there may be
abbrev pub lines_refuse : List ServiceLine → ServiceLine → Bool
lines_refuse lines l = not (good_line l) || nat_le capacity (length lines)

-- m is the SMF of a line that is the first for slice s and DNN n
abbrev pub FirstSmf : List ServiceLine → ℕ → ℕ → ℕ → Type 0
FirstSmf lines s n m = (i : ℕ) × First lines s n i × HoldsAt (λ l. l.smf ≡ m) lines i
