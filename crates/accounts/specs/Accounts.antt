-- The account: which payloads and contexts there have to be after a list of calls, told from the calls alone.
use Rattle.std.specs.Prelude.{ℕ, ◌+◌, Bool, cond, not, ◌&&◌, List, [], ◌∷◌, map, length, is_some, Some, None, Ok, Err, Option, Result, option_map, ◌==◌}
use Rattle.std.specs.List.{filter, find, list_any}
use Rattle.codes.specs.declared.cause.Cause.TheVariants.{NotForwarded}
use Rattle.nas.specs.Returns.{returned}
use Rattle.nas.specs.Uplinks.{Message, read}
use Rattle.stores.specs.declared.context.Context.{Context}
use Rattle.stores.specs.Contexts.{is_of}
use Rattle.verdicts.specs.declared.verdict.Verdict.{Verdict}
use Rattle.verdicts.specs.Verdicts.{smf_of, context_of}
use Rattle.accounts.specs.Receives.{Core, Opening, Received, State, verdict_on}

-- ---- what is fed to it

-- A call by its arguments. Of its answer there is only whether it was refused, and the SMF that a directory chose.
pub data Call : Type 0 where
  receive : Received → Option ℕ → Call
  -- a ticket's number
  taken : ℕ → Call
  failed : ℕ → Call
  -- a UE and a session
  released : ℕ → ℕ → Call
  -- a call of any other kind
  other : Call

pub record Event : Type 0 where
  pub call : Call
  pub refused : Bool

-- ---- what is in it

-- a payload that was accepted, with the counts of how often it was taken and returned
pub record Payload : Type 0 where
  pub number : ℕ
  pub ue : ℕ
  pub session : ℕ
  pub octets : List ℕ
  pub taken : ℕ
  pub returned : ℕ

-- a context, under the number of the payload that established it
pub record Numbered : Type 0 where
  pub number : ℕ
  pub context : Context

pub record Account : Type 0 where
  pub next : ℕ
  pub payloads : List Payload
  pub contexts : List Numbered

abbrev pub opened : Opening → Account
opened o = record { next = o.first; payloads = []; contexts = [] }

-- neither taken nor returned
abbrev pub in_flight : Payload → Bool
in_flight p = p.taken + p.returned == 0

abbrev pub contexts_in : Account → List Context
contexts_in a = map (λ x. x.context) a.contexts

-- what a receive would be told by it, over a store with this room
abbrev pub state_of : Account → (ℕ → ℕ → Bool) → State
state_of a room = record {
  has_flight = λ u k. list_any (λ p. in_flight p && (p.ue == u && p.session == k)) a.payloads;
  flights = length (filter in_flight a.payloads);
  room = room;
  next = a.next;
}

-- what goes back to the UE where the SMF did not take the payload of number n
abbrev pub failed_octets : Account → ℕ → Option (List ℕ)
failed_octets a n =
    option_map (λ p. returned p.octets p.session NotForwarded) (find (λ p. p.number == n) a.payloads)

-- ---- what the calls do to it

-- the contexts but for that of session k of UE u
abbrev pub without : ℕ → ℕ → List Numbered → List Numbered
without u k xs = filter (λ x. not (is_of u k x.context)) xs

-- where a context is established, it stands under n, in the place of one that stood
abbrev pub entered : ℕ → Option Context → List Numbered → List Numbered
entered n None xs = xs
entered n (Some c) xs = record { number = n; context = c } ∷ without c.ue c.session xs

-- what a release that is ordered leaves
abbrev pub left : Bool → ℕ → ℕ → List Numbered → List Numbered
left ordered u k xs = cond ordered (without u k xs) xs

abbrev pub with_verdict : Account → ℕ → Message → Verdict → Account
with_verdict a u m v = record {
  next = a.next + 1;
  payloads = record { number = a.next; ue = u; session = m.session; octets = m.payload; taken = 0; returned = cond (is_some (smf_of v.decision)) 0 1 } ∷ a.payloads;
  contexts = entered a.next (context_of v u m.session) (left (is_some v.release) u m.session a.contexts);
}

abbrev pub with_message : Core → Account → Received → Option ℕ → Result Message ℕ → Account
with_message core a r chosen (Ok m) =
    with_verdict a r.ue.number m (verdict_on core (contexts_in a) r chosen m)
with_message core a r chosen (Err e) = a

-- the payload, taken and returned so many times more
abbrev pub counted : ℕ → ℕ → Payload → Payload
counted t r p = record { number = p.number; ue = p.ue; session = p.session; octets = p.octets; taken = p.taken + t; returned = p.returned + r }

-- the same of the payload of number n among these
abbrev pub counted_at : ℕ → ℕ → ℕ → List Payload → List Payload
counted_at n t r ps = map (λ p. cond (p.number == n) (counted t r p) p) ps

abbrev pub called : Core → Account → Call → Account
called core a (receive r chosen) = with_message core a r chosen (read r.octets)
called core a (taken n) = record { next = a.next; payloads = counted_at n 1 0 a.payloads; contexts = a.contexts }
called core a (failed n) = record { next = a.next; payloads = counted_at n 0 1 a.payloads; contexts = filter (λ x. not (x.number == n)) a.contexts }
called core a (released u k) = record { next = a.next; payloads = a.payloads; contexts = without u k a.contexts }
called core a other = a

-- a refusal changes nothing
abbrev pub after : Core → Account → Event → Account
after core a e = cond e.refused a (called core a e.call)

-- the account of a list of calls, the latest first
abbrev pub account : Opening → List Event → Account
account o [] = opened o
account o (e ∷ es) = after o.core (account o es) e
