-- Opening a router.
use Rattle.std.specs.Prelude.{◌≡◌, ℕ, Bool, true, false, ◌&&◌, List, [], length, nat_lt, ◌==◌, Ok, Err, Result}
use Rattle.accounts.specs.Receives.{Opening}
use Rattle.codes.specs.declared.refusal.Refusal.TheVariants as refusal
use Rattle.codes.specs.Refusals.{refusal_number}
use Rattle.codes.specs.declared.setup_error.SetupError.{SetupError}
use Rattle.codes.specs.declared.setup_error.SetupError.TheVariants.{Refused, OutOfMemory}
use Rattle.names.specs.declared.book.Book.{Book}
use Rattle.records.specs.declared.configuration.Configuration.{Configuration}
use Rattle.records.specs.Configurations.{configuration_fits}
use Rattle.runs.specs.Laws.{Upholds}
use Rattle.runs.specs.Models.{Model}
use Rattle.router.specs.Views.{model}
use Rattle.router.specs.declared.router.Router.{Router}
use Rattle.router.specs.declared.unopened.Unopened.{Unopened}
use Rattle.runs.specs.Runs.{Run, Opened}
use Rattle.stores.specs.declared.context.Context.{Context}
use Rattle.stores.specs.declared.store.Store.{Ghosts}

-- what a router is opened with
abbrev pub opening : Book → Configuration → ℕ → Opening
opening book configuration first =
    record { core = record { names = book; configuration = configuration }; first = first }

-- A router can be opened: the DNNs of its configuration are in the book, the first ticket number is not 0, and its store is empty.
abbrev pub opening_fits : Opening → List Context → Bool
opening_fits o contexts =
    configuration_fits (length o.core.names) o.core.configuration && (nat_lt 0 o.first && length contexts == 0)

-- it is refused where it cannot be opened, and only where it can is memory wanted
abbrev pub NotOpened : Bool → SetupError → Type 0
NotOpened fits (Refused r) = (refusal_number r ≡ refusal_number refusal.Opening) × (fits ≡ false)
NotOpened fits OutOfMemory = fits ≡ true

-- a router is made exactly if it can be opened and there is memory
abbrev pub OpensIf : {S : Type 0} {g : Ghosts S} → Bool → Result (Router S g) (Unopened S) → Type 0
OpensIf fits (Ok r) = fits ≡ true
OpensIf fits (Err u) = NotOpened fits u.error

-- likewise the copy of its book
abbrev pub CopiesIf : Bool → Result Book SetupError → Type 0
CopiesIf fits (Ok b) = fits ≡ true
CopiesIf fits (Err e) = NotOpened fits e

-- this router was just opened so
abbrev pub IsOpened : {S : Type 0} {g : Ghosts S} → Opening → Router S g → Type 0
IsOpened o r = (p : List ℕ) → Opened o (model r p)

-- a run begins here, with all that holds of it
pub record Begins (o : Opening) (m : Model) : Type 0 where
  pub runs : Run o [] m
  pub holds : Upholds o [] m

-- and does so in this router, whatever pool it is handed
abbrev pub BeginsIn : {S : Type 0} {g : Ghosts S} → Opening → Router S g → Type 0
BeginsIn o r = (p : List ℕ) → Begins o (model r p)
