-- A small core, and ten cases in it, each from a fresh start.
use Rattle.std.specs.Prelude.{◌≡◌, ℕ, true, false, Bool, cond, List, [], ◌∷◌, map, Some, None, Ok, Err, Option, Result}
use Rattle.codes.specs.Refusals.{refusal_number}
use Rattle.codes.specs.declared.refusal.Refusal.TheVariants.{PairInFlight}
use Rattle.codes.specs.declared.slice_dnn.SliceDnn.{SliceDnn}
use Rattle.control.specs.declared.control_key.ControlKey.{ControlKey}
use Rattle.control.specs.Keys.{key_in, same_key}
use Rattle.directories.specs.declared.service_line.ServiceLine.{ServiceLine}
use Rattle.directories.specs.Choices.{Chosen}
use Rattle.directories.specs.Lines.{lines_serve, takes_first}
use Rattle.nas.specs.Sample.{sample}
use Rattle.nas.specs.Uplinks.{then}
use Rattle.records.specs.Records.{Ue}
use Rattle.stores.specs.declared.context.Context.{Context}
use Rattle.stores.specs.Contexts.{pair_fits}
use Rattle.verdicts.specs.declared.decision.Decision.TheVariants.{Establish}
use Rattle.verdicts.specs.Laws.{answer_of}
use Rattle.accounts.specs.Receives.{Opening, Received, Answer, answered, pool_length}
use Rattle.accounts.specs.Accounts.{Account, Call, receive, taken, failed, contexts_in, state_of, account, failed_octets}

-- ---- the core

abbrev pub common : SliceDnn
common = record { slice = 0x01FFFFFF; dnn = 1 }

abbrev pub emergency : SliceDnn
emergency = record { slice = 0x01FFFFFF; dnn = 2 }

abbrev pub opening : Opening
opening = record {
  core = record {
    names = (0x04 ∷ 0x6C ∷ 0x6F ∷ 0x6F ∷ 0x6D ∷ []) ∷ (0x03 ∷ 0x73 ∷ 0x6F ∷ 0x73 ∷ []) ∷ [];
    configuration = record { default = common; emergency = emergency; static_emergency_smf = 9 };
  };
  first = 1;
}

-- the list directory, in which SMF 7 serves DNN 1 in slice 01FFFFFF
abbrev pub lines : List ServiceLine
lines = record { slice = 0x01FFFFFF; dnn = 1; smf = 7 } ∷ []

-- UE 5, which may have so many sessions and has no lines
abbrev pub ue : ℕ → Ue
ue limit = record { number = 5; high_priority = false; awaits_registration = false; session_limit = limit; subscriptions = []; known = [] }

-- there is no control line
abbrev pub no_line : ControlKey → Option ℕ
no_line k = None

-- there is just the one that was set by these numbers, if they name a key
abbrev pub line_of : Option ControlKey → ℕ → ControlKey → Option ℕ
line_of None b k = None
line_of (Some j) b k = cond (same_key j k) (Some b) None

-- a line of kind 1, for DNN 1, with back-off octet 21
abbrev pub one_line : ControlKey → Option ℕ
one_line = line_of (key_in 1 0 1) 0x21

-- the sample message, and it with other last octets
abbrev pub with_end : List ℕ → List ℕ
with_end end =
    0x7E ∷ 0x00 ∷ 0x67 ∷ 0x01 ∷ 0x00 ∷ 0x04 ∷ 0x2E ∷ 0x01 ∷ 0x01 ∷ 0xC1 ∷ end

-- the octets of its return, up to the cause
abbrev pub return_with : List ℕ → List ℕ
return_with end =
    0x7E ∷ 0x00 ∷ 0x68 ∷ 0x01 ∷ 0x00 ∷ 0x04 ∷ 0x2E ∷ 0x01 ∷ 0x01 ∷ 0xC1 ∷ 0x12 ∷ 0x01 ∷ 0x58 ∷ end

-- octets that UE 5 sends, with whole buffers, no control line and the list directory
abbrev pub sent : List ℕ → Received
sent octets = record { ue = ue 15; back_off = no_line; is_open = true; serves = lines_serve lines; pool = pool_length; output = 4096; octets = octets }

-- over another directory
abbrev pub over : Bool → (ℕ → ℕ → ℕ → Bool) → Received → Received
over is_open serves r = record { ue = r.ue; back_off = r.back_off; is_open = is_open; serves = serves; pool = r.pool; output = r.output; octets = r.octets }

abbrev pub held_off : Received → Received
held_off r = record { ue = r.ue; back_off = one_line; is_open = r.is_open; serves = r.serves; pool = r.pool; output = r.output; octets = r.octets }

abbrev pub limited : ℕ → Received → Received
limited limit r = record { ue = ue limit; back_off = r.back_off; is_open = r.is_open; serves = r.serves; pool = r.pool; output = r.output; octets = r.octets }

-- the account of calls that were carried out, the latest first
abbrev pub done : List Call → Account
done calls = account opening (map (λ c. record { call = c; refused = false }) calls)

-- What is answered after these calls, and what is written, where the directory chose this SMF, if any. Fewer contexts stand than
-- any store's floor, so there is room for each UE and session.
abbrev pub answer_after : List Call → Received → Option ℕ → Result Answer ℕ
answer_after calls r chosen =
    answered opening.core (state_of (done calls) pair_fits) (contexts_in (done calls)) r chosen

abbrev pub written_after : List Call → Received → Option ℕ → Result (List ℕ) ℕ
written_after calls r chosen = then (answer_after calls r chosen) (λ a. Ok a.octets)

-- an initial request is forwarded to an SMF, under this number
abbrev pub forwarded : ℕ → ℕ → Option ℕ → Result Answer ℕ
forwarded number smf release = Ok (record {
  number = number;
  old_session = None;
  request = Some 1;
  verdict = record { used = common; decision = Establish smf false; release = release };
  octets = [];
})

abbrev pub context : ℕ → ℕ → Bool → SliceDnn → Context
context session smf is_emergency u = record { ue = 5; session = session; smf = smf; emergency = is_emergency; slice = u.slice; dnn = u.dnn }

-- ---- the ten cases

abbrev pub initial : Received
initial = sent sample

abbrev pub forward : Call
forward = receive initial (Some 7)

-- the same for session 2, from a UE that may have one session
abbrev pub second : Received
second = limited 1 (sent (with_end (0x12 ∷ 0x02 ∷ 0x81 ∷ [])))

abbrev pub forward_second : Call
forward_second = receive second (Some 7)

pub record TenCases : Type 0 where
  -- the list directory chooses SMF 7
  pub list_chooses : (m : Option ℕ) → Chosen true (lines_serve lines common.slice common.dnn) (takes_first lines common.slice common.dnn) (answer_of true m) → m ≡ Some 7
  -- 1: the message is forwarded to it under number 1, and a context is made
  pub first : answer_after [] initial (Some 7) ≡ forwarded 1 7 None
  pub first_contexts : contexts_in (done (forward ∷ [])) ≡ context 1 7 false common ∷ []
  -- 2: a list directory with no lines chooses none
  pub empty_list_chooses : (m : Option ℕ) → Chosen true (lines_serve [] common.slice common.dnn) (takes_first [] common.slice common.dnn) (answer_of true m) → m ≡ None
  pub unserved : written_after [] (over true (lines_serve []) initial) None ≡ Ok (return_with (0x5B ∷ []))
  -- 3: a directory is closed, whoever serves what in it
  pub closed : (serves : ℕ → ℕ → ℕ → Bool) → written_after [] (over false serves initial) None ≡ Ok (return_with (0x5A ∷ []))
  -- 4: the message comes again while the first is in flight
  pub twice : answer_after (forward ∷ []) initial (Some 7) ≡ Err (refusal_number PairInFlight)
  -- 5: the SMF did not take it
  pub failed_return : failed_octets (done (forward ∷ [])) 1 ≡ Some (return_with (0x5A ∷ []))
  pub failed_contexts : contexts_in (done (failed 1 ∷ forward ∷ [])) ≡ []
  -- 6: it took it, and the message comes again
  pub again : answer_after (taken 1 ∷ forward ∷ []) initial (Some 7) ≡ forwarded 2 7 (Some 7)
  -- 7: the message without its last octet, and so without a request type
  pub no_request_type : written_after [] (sent (with_end (0x12 ∷ 0x01 ∷ []))) None ≡ Ok (return_with (0x5A ∷ []))
  -- 8: a control line for DNN 1
  pub congested : written_after [] (held_off initial) None ≡ Ok (return_with (0x16 ∷ 0x37 ∷ 0x01 ∷ 0x21 ∷ []))
  -- 9: an initial emergency request goes to the static SMF
  pub emergency_context : contexts_in (done (receive (sent (with_end (0x12 ∷ 0x01 ∷ 0x83 ∷ []))) None ∷ [])) ≡ context 1 9 true emergency ∷ []
  pub emergency_answer : answer_after [] (sent (with_end (0x12 ∷ 0x01 ∷ 0x83 ∷ []))) None ≡ Ok (record { number = 1; old_session = None; request = Some 3; verdict = record { used = emergency; decision = Establish 9 true; release = None }; octets = [] })
  -- 10: a UE that may have one session sends it for session 2, which the SMF takes, and then for session 1
  pub other_answer : answer_after [] second (Some 7) ≡ forwarded 1 7 None
  pub other_session : contexts_in (done (taken 1 ∷ forward_second ∷ [])) ≡ context 2 7 false common ∷ []
  pub at_limit : written_after (taken 1 ∷ forward_second ∷ []) (limited 1 initial) None ≡ Ok (return_with (0x41 ∷ []))
