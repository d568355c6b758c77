-- The kinds and the states of a directory, by their words.
use Rattle.std.specs.Prelude.{ℕ, Bool, true, false, List, [], ◌∷◌, codes, Option}
use Rattle.std.specs.List.{find}
use Rattle.std.specs.Str.{bytes_eq}
use Rattle.hall.specs.declared.directory_kind.DirectoryKind.{DirectoryKind}
use Rattle.hall.specs.declared.directory_kind.DirectoryKind.TheVariants as kinds
use Rattle.hall.specs.declared.directory_state.DirectoryState.{DirectoryState}
use Rattle.hall.specs.declared.directory_state.DirectoryState.TheVariants as states

abbrev pub kind_word : DirectoryKind → List ℕ
kind_word kinds.List = codes "list"
kind_word kinds.Turning = codes "turning"

-- the kind that a word is
abbrev pub kind_in : List ℕ → Option DirectoryKind
kind_in word = find (λ k. bytes_eq word (kind_word k)) (kinds.List ∷ kinds.Turning ∷ [])

abbrev pub state_word : DirectoryState → List ℕ
state_word states.Open = codes "open"
state_word states.Closed = codes "closed"

-- the state that a word is
abbrev pub state_in : List ℕ → Option DirectoryState
state_in word = find (λ s. bytes_eq word (state_word s)) (states.Open ∷ states.Closed ∷ [])

abbrev pub is_open : DirectoryState → Bool
is_open states.Open = true
is_open states.Closed = false
