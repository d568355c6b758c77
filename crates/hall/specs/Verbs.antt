-- The first words of the commands.
use Rattle.std.specs.Prelude.{ℕ, List, [], ◌∷◌, codes, Option}
use Rattle.std.specs.List.{find}
use Rattle.std.specs.Str.{bytes_eq}
use Rattle.hall.specs.declared.verb.Verb.{Verb}
use Rattle.hall.specs.declared.verb.Verb.TheVariants.{Read, Book, Store, Directory, Serve, Mark, Control, Set, Clear, Open, Ue, Subscribe, Know, Receive, Payload, Taken, Failed, Park, Pick, Released, Find}

abbrev pub verb_word : Verb → List ℕ
verb_word Read = codes "read"
verb_word Book = codes "book"
verb_word Store = codes "store"
verb_word Directory = codes "directory"
verb_word Serve = codes "serve"
verb_word Mark = codes "mark"
verb_word Control = codes "control"
verb_word Set = codes "set"
verb_word Clear = codes "clear"
verb_word Open = codes "open"
verb_word Ue = codes "ue"
verb_word Subscribe = codes "subscribe"
verb_word Know = codes "know"
verb_word Receive = codes "receive"
verb_word Payload = codes "payload"
verb_word Taken = codes "taken"
verb_word Failed = codes "failed"
verb_word Park = codes "park"
verb_word Pick = codes "pick"
verb_word Released = codes "released"
verb_word Find = codes "find"

abbrev pub all_verbs : List Verb
all_verbs = Read ∷ Book ∷ Store ∷ Directory ∷ Serve ∷ Mark ∷ Control ∷ Set ∷ Clear ∷ Open ∷ Ue ∷ Subscribe ∷ Know ∷ Receive ∷ Payload ∷ Taken ∷ Failed ∷ Park ∷ Pick ∷ Released ∷ Find ∷ []

-- the verb that a word is
abbrev pub verb_in : List ℕ → Option Verb
verb_in word = find (λ v. bytes_eq word (verb_word v)) all_verbs
