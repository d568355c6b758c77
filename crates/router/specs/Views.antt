-- What the values of the code stand for.
use Rattle.std.specs.Prelude.{◌≡◌, ℕ, List, [], ◌∷◌, take, Ok, Err, Result}
use Rattle.accounts.specs.Accounts.{contexts_in}
use Rattle.accounts.specs.Receives.{Core, Opening}
use Rattle.codes.specs.declared.handed_back.HandedBack.{HandedBack}
use Rattle.codes.specs.Refusals.{refusal_number}
use Rattle.stores.specs.declared.context.Context.{Context}
use Rattle.stores.specs.declared.store.Store.{Ghosts}
use Rattle.router.specs.declared.router.Router.{Router}
use Rattle.router.specs.declared.ticket.Ticket.{Ticket}
use Rattle.runs.specs.Models.{Model, Token}
use Rattle.runs.specs.Entries.{Entry, account_of}
use Rattle.runs.specs.Laws.{Extends}
use Rattle.runs.specs.Runs.{Run, IsHanded, pool_after}
use Rattle.stores.specs.Contexts.{lookup}

abbrev pub token : Ticket → Token
token t = record { number = t.number; slot = t.slot }

-- what a call answers that hands the ticket back where it refuses, with a refusal by its number
abbrev pub handed : {X : Type 0} → Result X (HandedBack Ticket) → Result X ℕ
handed (Ok x) = Ok x
handed (Err e) = Err (refusal_number e.refusal)

-- the octets that such a call wrote to the front of this output, by the length that it answers
abbrev pub written : List ℕ → Result ℕ (HandedBack Ticket) → Result (List ℕ) ℕ
written output (Ok n) = Ok (take n output)
written output (Err e) = Err (refusal_number e.refusal)

abbrev pub core : {S : Type 0} {g : Ghosts S} → Router S g → Core
core r = record { names = r.book; configuration = r.configuration }

-- the store that a router owns
abbrev pub store_of : {S : Type 0} {g : Ghosts S} → Router S g → S
store_of r = r.store

-- the contexts in it
abbrev pub contexts_of : {S : Type 0} {g : Ghosts S} → Router S g → List Context
contexts_of {g = g} r = g.contexts r.store

-- the state of a router, with the octets of the pool
abbrev pub model : {S : Type 0} {g : Ghosts S} → Router S g → List ℕ → Model
model {g = g} r pool = record {
  core = core r;
  next = r.next;
  flights = r.flights.slots;
  contexts = g.contexts r.store;
  floor = g.floor r.store;
  room = g.room r.store;
  pool = pool;
}

-- nothing but its flights changed
abbrev pub OnlyFlights : {S : Type 0} {g : Ghosts S} → Router S g → Router S g → Type 0
OnlyFlights before after =
    (after.store ≡ before.store) × (core after ≡ core before) × (after.next ≡ before.next)

-- ---- the law over all runs, for one call

-- this call makes, of every run that ends in the one router, a run that ends in the other
abbrev pub Lawful : {S : Type 0} {g : Ghosts S} → Router S g → Router S g → Entry → Type 0
Lawful before after e = (o : Opening) (p : List ℕ) → Extends o (model before p) (e ∷ []) (model after p)

-- the same of a call that is handed this pool, and only reads it
abbrev pub LawfulWith : {S : Type 0} {g : Ghosts S} → List ℕ → Router S g → Router S g → Entry → Type 0
LawfulWith pool before after e =
    (o : Opening) (p : List ℕ) → IsHanded p pool → Extends o (model before p) (e ∷ []) (model after p)

-- the same of a call that is handed this pool, and leaves it so
abbrev pub LawfulOver : {S : Type 0} {g : Ghosts S} → List ℕ → List ℕ → Router S g → Router S g → Entry → Type 0
LawfulOver pool left before after e =
    (o : Opening) (p : List ℕ) → IsHanded p pool → Extends o (model before p) (e ∷ []) (model after (pool_after p pool left))

-- whatever run ends in this router, the store has the contexts of its account
abbrev pub Accounted : {S : Type 0} {g : Ghosts S} → Router S g → S → Type 0
Accounted {g = g} r store =
    (o : Opening) (p : List ℕ) (es : List Entry) → Run o es (model r p) → (u k : ℕ) → lookup (g.contexts store) u k ≡ lookup (contexts_in (account_of o es)) u k
