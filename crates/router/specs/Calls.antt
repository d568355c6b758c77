-- What the calls do that follow a receive, and how they stand in a list of calls, by what they were handed and what they answered.
use Rattle.std.specs.Prelude.{ℕ, List, length, Result}
use Rattle.std.specs.Borrow.{Bor}
use Rattle.codes.specs.declared.handed_back.HandedBack.{HandedBack}
use Rattle.codes.specs.declared.refusal.Refusal.{Refusal}
use Rattle.codes.specs.Refusals.{numbered}
use Rattle.nas.specs.Views.{octets, seen}
use Rattle.router.specs.declared.router.Router.{Router}
use Rattle.router.specs.declared.ticket.Ticket.{Ticket}
use Rattle.router.specs.Views.{model, token, handed, written}
use Rattle.runs.specs.Calls.{HandsOut, Takes, Fails, Parks, Picks, Releases}
use Rattle.runs.specs.Entries as entry
use Rattle.runs.specs.Entries.{Entry}
use Rattle.stores.specs.declared.pdu_session.PduSession.{PduSession}
use Rattle.stores.specs.declared.store.Store.{Ghosts}

-- ---- payload: the router, the pool, a ticket, the answer

abbrev pub DoesPayload : {S : Type 0} {g : Ghosts S} → Router S g → List ℕ → Ticket → Result (Bor (List ℕ)) Refusal → Type 0
DoesPayload r pool t result =
    HandsOut (model r pool) (length pool) (token t) (seen octets result) (model r pool)

abbrev pub payload_entry : List ℕ → Ticket → Result (Bor (List ℕ)) Refusal → Entry
payload_entry pool t result = entry.payload (length pool) (token t) (seen octets result)

-- ---- taken: the router before, a ticket, the answer, and the router after

abbrev pub DoesTaken : {S : Type 0} {g : Ghosts S} → Router S g → Ticket → Result (Unit {0}) (HandedBack Ticket) → Router S g → Type 0
DoesTaken before t result after =
    (p : List ℕ) → Takes (model before p) (token t) (handed result) (model after p)

abbrev pub taken_entry : Ticket → Result (Unit {0}) (HandedBack Ticket) → Entry
taken_entry t result = entry.taken (token t) (handed result)

-- ---- failed: the same, with the pool, and the output before and after

abbrev pub DoesFailed : {S : Type 0} {g : Ghosts S} → Router S g → List ℕ → List ℕ → Ticket → List ℕ → Result ℕ (HandedBack Ticket) → Router S g → Type 0
DoesFailed before pool output t left result after =
    Fails (model before pool) (length pool) (length output) (token t) (written left result) (model after pool)

abbrev pub failed_entry : List ℕ → List ℕ → Ticket → List ℕ → Result ℕ (HandedBack Ticket) → Entry
failed_entry pool output t left result =
    entry.failed (length pool) (length output) (token t) (written left result)

-- ---- park and pick

abbrev pub DoesPark : {S : Type 0} {g : Ghosts S} → Router S g → Ticket → Result ℕ (HandedBack Ticket) → Router S g → Type 0
DoesPark before t result after =
    (p : List ℕ) → Parks (model before p) (token t) (handed result) (model after p)

abbrev pub park_entry : Ticket → Result ℕ (HandedBack Ticket) → Entry
park_entry t result = entry.park (token t) (handed result)

abbrev pub DoesPick : {S : Type 0} {g : Ghosts S} → Router S g → ℕ → Result Ticket Refusal → Router S g → Type 0
DoesPick before number result after =
    (p : List ℕ) → Picks (model before p) number (seen token result) (model after p)

abbrev pub pick_entry : ℕ → Result Ticket Refusal → Entry
pick_entry number result = entry.pick number (seen token result)

-- ---- released

abbrev pub DoesReleased : {S : Type 0} {g : Ghosts S} → Router S g → PduSession → Result (Unit {0}) Refusal → Router S g → Type 0
DoesReleased before s result after =
    (p : List ℕ) → Releases (model before p) s.ue s.id (numbered result) (model after p)

abbrev pub released_entry : PduSession → Result (Unit {0}) Refusal → Entry
released_entry s result = entry.released s.ue s.id (numbered result)
