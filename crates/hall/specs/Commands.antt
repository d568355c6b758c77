-- What the words of a line ask for.
use Rattle.std.specs.Prelude.{ℕ, List, [], ◌∷◌, None, Option}
use Rattle.std.specs.Option.{option_map}
use Rattle.playing.specs.Lines.{operand_in}
use Rattle.hall.specs.declared.verb.Verb.{Verb}
use Rattle.hall.specs.declared.verb.Verb.TheVariants.{Read, Book, Store, Directory, Serve, Mark, Control, Set, Clear, Open, Ue, Subscribe, Know, Receive, Payload, Taken, Failed, Park, Pick, Released, Find}
use Rattle.hall.specs.Changes.{Change, where_some, book_words, store_words, directory_words, serve_words, mark_words, control_words, set_words, clear_words}
use Rattle.hall.specs.declared.opening.Opening.{Opening}
use Rattle.hall.specs.declared.ue_note.UeNote.{UeNote}
use Rattle.hall.specs.Calls.{Call, receive_words, payload_words, taken_words, failed_words, park_words, pick_words, released_words, find_words}
use Rattle.hall.specs.Notes.{ue_words, subscribe_words, know_words}
use Rattle.hall.specs.Openings.{open_words}
use Rattle.hall.specs.Verbs.{verb_in}

pub data Command : Type 0 where
  read : List ℕ → Command
  change : Change → Command
  open_router : Opening → Command
  note : UeNote → Command
  call : Call → Command

-- a verb, and the words behind it
abbrev pub command_of : Verb → List (List ℕ) → Option Command
command_of Read words = option_map read (operand_in words)
command_of Book words = option_map change (book_words words)
command_of Store words = option_map change (store_words words)
command_of Directory words = option_map change (directory_words words)
command_of Serve words = option_map change (serve_words words)
command_of Mark words = option_map change (mark_words words)
command_of Control words = option_map change (control_words words)
command_of Set words = option_map change (set_words words)
command_of Clear words = option_map change (clear_words words)
command_of Open words = option_map open_router (open_words words)
command_of Ue words = option_map note (ue_words words)
command_of Subscribe words = option_map note (subscribe_words words)
command_of Know words = option_map note (know_words words)
command_of Receive words = option_map call (receive_words words)
command_of Payload words = option_map call (payload_words words)
command_of Taken words = option_map call (taken_words words)
command_of Failed words = option_map call (failed_words words)
command_of Park words = option_map call (park_words words)
command_of Pick words = option_map call (pick_words words)
command_of Released words = option_map call (released_words words)
command_of Find words = option_map call (find_words words)

abbrev pub command_words : List (List ℕ) → Option Command
command_words [] = None
command_words (word ∷ rest) = where_some (verb_in word) (λ verb. command_of verb rest)
