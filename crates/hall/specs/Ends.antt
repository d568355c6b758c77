-- How a change ended.
use Rattle.std.specs.Prelude.{ℕ, Some, None, Ok, Err, Option, Result}
use Rattle.codes.specs.Refusals.{refusal_number}
use Rattle.codes.specs.declared.setup_error.SetupError.TheVariants as setup
use Rattle.hall.specs.declared.not_done.NotDone.{NotDone}
use Rattle.hall.specs.declared.not_done.NotDone.TheVariants as ends

-- it was made, was refused, or came before what it needs
pub data Outcome : Type 0 where
  Accepted : Outcome
  -- by the number of the refusal
  Refused : ℕ → Outcome
  Misplaced : Outcome

-- the outcome, where there was memory
abbrev pub outcome_of : Result (Unit {0}) NotDone → Option Outcome
outcome_of (Ok _) = Some Accepted
outcome_of (Err (ends.Setup (setup.Refused r))) = Some (Refused (refusal_number r))
outcome_of (Err (ends.Setup setup.OutOfMemory)) = None
outcome_of (Err ends.Misplaced) = Some Misplaced

-- the same of what was not done
abbrev pub reason : NotDone → Option Outcome
reason (ends.Setup (setup.Refused r)) = Some (Refused (refusal_number r))
reason (ends.Setup setup.OutOfMemory) = None
reason ends.Misplaced = Some Misplaced
