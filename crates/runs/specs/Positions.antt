-- What a list of calls says by the places in it. The latest call is the first.
use Rattle.std.specs.Prelude.{◌≡◌, ℕ, Bool, true, false, ◌&&◌, List, [], ◌∷◌, ◌++◌, is_some, Some, Ok, Err, Option, Result, ◌==◌}
use Rattle.std.specs.List.{list_any}
use Rattle.accounts.specs.Receives.{Received, Answer}
use Rattle.nas.specs.Uplinks.{Message, read}
use Rattle.stores.specs.declared.context.Context.{Context}
use Rattle.verdicts.specs.Verdicts.{smf_of, context_of}
use Rattle.runs.specs.Models.{Token}
use Rattle.runs.specs.Entries.{Entry, receive, taken, failed, released}

-- P holds of each call and those before it
abbrev pub Each : (Entry → List Entry → Type 0) → List Entry → Type 0
Each P [] = Unit {0}
Each P (e ∷ es) = P e es × Each P es

-- ---- payloads

-- the call ends the flight of the payload of number n: it was taken,
abbrev pub ends_taken : ℕ → Entry → Bool
ends_taken n (taken t (Ok x)) = t.number == n
ends_taken n e = false

-- or it failed
abbrev pub ends_failed : ℕ → Entry → Bool
ends_failed n (failed pool output t (Ok octets)) = t.number == n
ends_failed n e = false

-- the message x was accepted under number n and forwarded, and has neither been taken nor failed since
pub record Flying (es : List Entry) (n : ℕ) (x : Message) : Type 0 where
  pub later : List Entry
  pub received : Received
  pub chosen : Option ℕ
  pub ticket : Option Token
  pub answer : Answer
  pub earlier : List Entry
  pub whole : es ≡ later ++ receive received chosen ticket (Ok answer) ∷ earlier
  pub number : answer.number ≡ n
  pub reads : read received.octets ≡ Ok x
  pub forwarded : is_some (smf_of answer.verdict.decision) ≡ true
  pub untaken : list_any (ends_taken n) later ≡ false
  pub unfailed : list_any (ends_failed n) later ≡ false

-- ---- contexts

-- the message is of session k
abbrev pub is_session : ℕ → Result Message ℕ → Bool
is_session k (Ok x) = x.session == k
is_session k (Err e) = false

-- The call ends what the payload of number n established for session k of UE u: that payload failed, or the context's release was ordered
-- by an answer or reported.
abbrev pub ends : ℕ → ℕ → ℕ → Entry → Bool
ends n u k (receive r chosen ticket (Ok a)) =
    is_some a.verdict.release && (r.ue.number == u && is_session k (read r.octets))
ends n u k (failed pool output t a) = ends_failed n (failed pool output t a)
ends n u k (released v j (Ok x)) = v == u && j == k
ends n u k e = false

-- a payload that establishes the context c was accepted, for the SMF that c names, and no later call ends that
pub record Established (es : List Entry) (c : Context) : Type 0 where
  pub later : List Entry
  pub received : Received
  pub chosen : Option ℕ
  pub ticket : Option Token
  pub answer : Answer
  pub message : Message
  pub earlier : List Entry
  pub whole : es ≡ later ++ receive received chosen ticket (Ok answer) ∷ earlier
  pub reads : read received.octets ≡ Ok message
  pub establishes : context_of answer.verdict received.ue.number message.session ≡ Some c
  pub smf : smf_of answer.verdict.decision ≡ Some c.smf
  pub stands : list_any (ends answer.number c.ue c.session) later ≡ false
