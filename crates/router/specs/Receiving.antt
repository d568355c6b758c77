-- Receiving a message: what is handed in and what is answered, in the words of the definitions.
use Rattle.std.specs.Prelude.{◌≡◌, ℕ, ◌+◌, ◌<◌, ◌≤◌, Bool, true, false, cond, ◌&&◌, ◌==◌, List, [], is_some, length, Some, None, Ok, Err, Option, Result, option_map, take}
use Rattle.accounts.specs.Receives.{Received, Answer, received, case_on, answer_to, verdict_on, pool_length, most_flights, last_number}
use Rattle.codes.specs.declared.refusal.Refusal.{Refusal}
use Rattle.control.specs.declared.control_row.ControlRow.{ControlRow}
use Rattle.control.specs.declared.control_table.ControlTable.{ControlTable}
use Rattle.control.specs.Lines.{back_off_of}
use Rattle.directories.specs.declared.directory.Directory.{Ghosts}
use Rattle.nas.specs.Returns.{return_overhead}
use Rattle.nas.specs.Uplinks.{Message, in_range, read, max_payload}
use Rattle.nas.specs.declared.uplink.Uplink.{Uplink}
use Rattle.nas.specs.Views.{decoded, seen}
use Rattle.records.specs.declared.ue_record.UeRecord.{UeRecord}
use Rattle.records.specs.Records.{Ue, plain, record_fits}
use Rattle.codes.specs.RequestTypes.{request_number}
use Rattle.flights.specs.Slots.{at}
use Rattle.router.specs.declared.admission.Admission.{Admission}
use Rattle.router.specs.declared.answer.Answer as code
use Rattle.router.specs.declared.answer.Delivery.{Delivery}
use Rattle.router.specs.declared.answer.Delivery.TheVariants.{Forwarded, Returned}
use Rattle.verdicts.specs.declared.verdict.Verdict.{Verdict}
use Rattle.verdicts.specs.Judgements.{ConsultedFor}
use Rattle.verdicts.specs.Laws.{choice_of}
use Rattle.verdicts.specs.Verdicts.{smf_of, context_of}
use Rattle.verdicts.specs.Rules.{ruling, has_choice}
use Rattle.router.specs.Buffers.{FrontWritten}
use Rattle.router.specs.Views.{token}
use Rattle.runs.specs.Calls.{flight, Accepted, RightChoice, Receives, stood_after}
use Rattle.runs.specs.Entries as entry
use Rattle.runs.specs.Entries.{Entry}
use Rattle.runs.specs.Models.{Model, Token, state}
use Rattle.stores.specs.declared.context.Context.{Context}
use Rattle.stores.specs.Contexts.{fits, lookup}

-- the message of an admission, or the number of the refusal
abbrev pub admitted_message : Result Admission Refusal → Result Message ℕ
admitted_message a = seen (λ x. decoded x.uplink) a

-- What the checks make of a message of this UE, with this output. They ask neither of control lines nor of a directory.
abbrev pub received_of : Model → Ue → List ℕ → List ℕ → Result Message ℕ
received_of m ue output octets =
    received m.core (state m) (record {
      ue = ue;
      back_off = λ k. None;
      is_open = false;
      serves = λ s d n. false;
      pool = length m.pool;
      output = length output;
      octets = octets;
    })

-- ---- the answer

-- the octets that a delivery left in the output
abbrev pub written_to : List ℕ → Delivery → List ℕ
written_to output (Forwarded t) = []
written_to output (Returned n) = take n output

abbrev pub told : List ℕ → code.Answer → Answer
told output a = record {
  number = a.number;
  old_session = a.old_session;
  request = option_map request_number a.request_type;
  verdict = a.verdict;
  octets = written_to output a.delivery;
}

-- the ticket that is given, if one is
abbrev pub ticket_in : Delivery → Option Token
ticket_in (Forwarded t) = Some (token t)
ticket_in (Returned n) = None

abbrev pub ticket_of : Result code.Answer Refusal → Option Token
ticket_of (Ok a) = ticket_in a.delivery
ticket_of (Err e) = None

-- the ticket is open here, if one is given
abbrev pub IsOpen : Model → Delivery → Type 0
IsOpen m (Forwarded t) = is_some (flight m (token t)) ≡ true
IsOpen m (Returned n) = Unit {0}

-- the output is as it was, or its first octets were written
abbrev pub OutputAfter : List ℕ → List ℕ → Delivery → Type 0
OutputAfter before after (Forwarded t) = after ≡ before
OutputAfter before after (Returned n) = FrontWritten n before after

-- ---- the directory

-- it has to choose for the message that was read, if one was
abbrev pub asks : Model → Received → Result Message ℕ → Bool
asks m r (Ok x) = has_choice (case_on m.core m.contexts r x)
asks m r (Err e) = false

-- the SMF that it chose, by the verdict on that message
abbrev pub choice_for : Model → Received → Verdict → Result Message ℕ → Option ℕ
choice_for m r v (Ok x) = choice_of (ruling (case_on m.core m.contexts r x)).outcome v.decision
choice_for m r v (Err e) = None

-- by the answer
abbrev pub chosen_in : Model → Received → Result Answer ℕ → Option ℕ
chosen_in m r (Ok a) = choice_for m r a.verdict (read r.octets)
chosen_in m r (Err e) = None

-- what becomes of it in a receive that gave this result: a refused one leaves it as it was
abbrev pub DirectoryAfter : {D : Type 0} → Ghosts D → Model → Received → Result code.Answer Refusal → D → D → Type 0
DirectoryAfter g m r (Ok a) before after =
    ConsultedFor g (asks m r (read r.octets)) a.verdict before after
DirectoryAfter g m r (Err e) before after = after ≡ before

-- ---- the verdict, with the choice that the directory made for it

abbrev pub verdict_for : Model → Received → Verdict → Message → Verdict
verdict_for m r v x = verdict_on m.core m.contexts r (choice_for m r v (Ok x)) x

abbrev pub ChoseRightly : Model → Received → Verdict → Message → Type 0
ChoseRightly m r v x = RightChoice m.core m.contexts r (choice_for m r v (Ok x)) x

abbrev pub answer_for : Model → Received → Verdict → Message → Answer
answer_for m r v x = answer_to m.core m.next m.contexts r (choice_for m r v (Ok x)) x

-- what it puts into the store for session k of UE u is in bounds
abbrev pub PutFits : Verdict → ℕ → ℕ → Type 0
PutFits v u k = (c : Context) → context_of v u k ≡ Some c → fits c ≡ true

-- what the store has afterwards: for this session what the verdict leaves of it, and for all others what it had
abbrev pub Settled : Verdict → ℕ → ℕ → List Context → List Context → Type 0
Settled v u k before after =
    (w j : ℕ) → lookup after w j ≡ cond (u == w && k == j) (stood_after v u k (lookup before u k)) (lookup before w j)

-- ---- what is handed in

-- what a receive is handed, with buffers by their lengths and a directory by its meaning
abbrev pub handed_by : {D : Type 0} → Ghosts D → UeRecord → List ControlRow → D → ℕ → ℕ → List ℕ → Received
handed_by g ue rows directory pool output octets =
    record { ue = plain ue; back_off = back_off_of rows; is_open = g.opened directory; serves = g.serves directory; pool = pool; output = output; octets = octets }

-- the same of whole values
abbrev pub heard : {D : Type 0} → Ghosts D → UeRecord → ControlTable → D → List ℕ → List ℕ → List ℕ → Received
heard g ue controls directory pool output octets = handed_by g ue controls directory (length pool) (length output) octets

-- what is judged: of buffers nothing is asked
abbrev pub judged_by : {D : Type 0} → Ghosts D → UeRecord → List ControlRow → D → Received
judged_by g ue rows directory = handed_by g ue rows directory 0 0 []

-- what a receive answers, by the output that it left
abbrev pub answer_in : List ℕ → Result code.Answer Refusal → Result Answer ℕ
answer_in output a = seen (told output) a

-- ---- a receive as a whole

-- the receive r of a router with this state, which left this output and gave this result
abbrev pub DoesReceive : Model → Received → List ℕ → Result code.Answer Refusal → Model → Type 0
DoesReceive m r output result n = Receives m r (chosen_in m r (answer_in output result)) (ticket_of result) (answer_in output result) n

-- what a receive of the message x does that is accepted with this answer
abbrev pub AcceptedWith : Model → Received → Message → code.Answer → Model → Type 0
AcceptedWith m r x a n = Accepted m r (choice_for m r a.verdict (Ok x)) (ticket_in a.delivery) x n

-- the same as it stands in a list of calls
abbrev pub receive_entry : Model → Received → List ℕ → Result code.Answer Refusal → Entry
receive_entry m r output result = entry.receive r (chosen_in m r (answer_in output result)) (ticket_of result) (answer_in output result)

-- ---- what the checks found

-- what holds of every message that is read
pub record Fitting (u : Uplink) : Type 0 where
  pub some : 0 < length u.payload.now
  pub few : length u.payload.now ≤ max_payload
  pub session : in_range u.session ≡ true

-- the admission a of a message that passed them, of this UE, with this output
pub record Admitted (m : Model) (ue : Ue) (output : List ℕ) (a : Admission) : Type 0 where
  pub ue_in : record_fits (length m.core.names) ue ≡ true
  pub pool_is : length m.pool ≡ pool_length
  pub fitting : Fitting a.uplink
  pub output_has : length a.uplink.payload.now + return_overhead ≤ length output
  pub room : m.room ue.number a.uplink.session ≡ true
  pub number : a.number ≡ m.next
  pub next : m.next ≤ last_number
  pub slot : a.slot < most_flights
  pub free : at m.flights a.slot ≡ None
