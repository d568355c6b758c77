-- What the outcome of a change prints.
use Rattle.std.specs.Prelude.{◌≡◌, ℕ, List, ◌++◌, length, Some, None, codes, decimal, Option}
use Rattle.hall.specs.declared.change.StoreKind.TheVariants.{Flat, Grid}
use Rattle.hall.specs.Ends.{Outcome, Accepted, Refused, Misplaced}
use Rattle.hall.specs.declared.verb.Verb.{Verb}
use Rattle.hall.specs.declared.verb.Verb.TheVariants as verbs
use Rattle.hall.specs.Changes.{Change, book, store, directory, serve, mark, control, set, clear}
use Rattle.playing.specs.Lines.{error_line}
use Rattle.hall.specs.Kinds.{kind_word, state_word}
use Rattle.hall.specs.Verbs.{verb_word}

abbrev pub verb_of : Change → Verb
verb_of (book names) = verbs.Book
verb_of (store kind) = verbs.Store
verb_of (directory kind) = verbs.Directory
verb_of (serve line) = verbs.Serve
verb_of (mark is) = verbs.Mark
verb_of (control rows) = verbs.Control
verb_of (set line octet) = verbs.Set
verb_of (clear line) = verbs.Clear

abbrev pub accepted_line : Change → List ℕ
accepted_line (book names) = codes "book " ++ decimal (length names)
accepted_line (store (Flat rows)) = codes "store flat " ++ decimal rows
accepted_line (store Grid) = codes "store grid"
accepted_line (directory kind) = codes "directory " ++ kind_word kind
accepted_line (serve line) = codes "serve"
accepted_line (mark state) = codes "mark " ++ state_word state
accepted_line (control rows) = codes "control " ++ decimal rows
accepted_line (set line octet) = codes "set"
accepted_line (clear line) = codes "clear"

abbrev pub refused_line : Verb → ℕ → List ℕ
refused_line verb n = verb_word verb ++ (codes " refused " ++ decimal n)

abbrev pub outcome_line : ℕ → Change → Outcome → List ℕ
outcome_line number c Accepted = accepted_line c
outcome_line number c (Refused r) = refused_line (verb_of c) r
outcome_line number c Misplaced = error_line number

-- s is the line of the outcome, where there is one
abbrev pub Tells : ℕ → Change → Option Outcome → List ℕ → Type 0
Tells number c None s = ⊥
Tells number c (Some o) s = s ≡ outcome_line number c o

-- the line of what prints its verb alone where it is accepted
abbrev pub done_line : ℕ → Verb → Outcome → List ℕ
done_line number verb Accepted = verb_word verb
done_line number verb (Refused r) = refused_line verb r
done_line number verb Misplaced = error_line number

abbrev pub TellsDone : ℕ → Verb → Option Outcome → List ℕ → Type 0
TellsDone number verb None s = ⊥
TellsDone number verb (Some o) s = s ≡ done_line number verb o
