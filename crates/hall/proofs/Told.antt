-- The outcome that a printed line tells.
use Rattle.std.proofs.Common.{◌≡◌, ℕ, List, Some, None, Option}
use Rattle.codes.specs.Refusals.{refusal_number}
use Rattle.codes.specs.declared.setup_error.SetupError.TheVariants as setup
use Rattle.hall.specs.declared.not_done.NotDone.{NotDone}
use Rattle.hall.specs.declared.not_done.NotDone.TheVariants as ends
use Rattle.hall.specs.declared.verb.Verb.{Verb}
use Rattle.hall.specs.Calls.{Call}
use Rattle.hall.specs.Ends.{Outcome, Refused, Misplaced, reason}
use Rattle.hall.specs.Outcomes.{done_line, TellsDone}
use Rattle.hall.specs.Replies.{call_verb, CallLine}

pub told : (number : ℕ) (verb : Verb) (r : Option Outcome) (s : List ℕ) → TellsDone number verb r s → (o : Outcome) × (s ≡ done_line number verb o)
told number verb None s h = absurd h
told number verb (Some o) s h = (o, h)

-- of a call that was not carried out
pub not_called : (number : ℕ) (c : Call) (e : NotDone) (s : List ℕ) → TellsDone number (call_verb c) (reason e) s → (o : Outcome) × CallLine number c o s
not_called number c (ends.Setup (setup.Refused r)) s h = (Refused (refusal_number r), h)
not_called number c (ends.Setup setup.OutOfMemory) s h = absurd h
not_called number c ends.Misplaced s h = (Misplaced, h)
