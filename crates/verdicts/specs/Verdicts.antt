-- Verdicts: where a payload goes, for which slice and DNN, and what is released.
use Rattle.std.specs.Prelude.{ℕ, Bool, true, false, Some, None, Option}
use Rattle.codes.specs.declared.cause.Cause.TheVariants.{NotForwarded, DnnNotSupported}
use Rattle.codes.specs.Causes.{cause_number, back_off_octet}
use Rattle.codes.specs.declared.slice_dnn.SliceDnn.{SliceDnn}
use Rattle.stores.specs.declared.context.Context.{Context}
use Rattle.verdicts.specs.declared.decision.Decision.{Decision}
use Rattle.verdicts.specs.declared.decision.Decision.TheVariants.{Forward, Establish, Return}
use Rattle.verdicts.specs.declared.outcome.Outcome.{Outcome}
use Rattle.verdicts.specs.declared.outcome.Outcome.TheVariants.{Settled, Choose}
use Rattle.verdicts.specs.declared.verdict.Verdict.{Verdict}
use Rattle.verdicts.specs.Cases.{Case, standing}
use Rattle.verdicts.specs.Rules.{ruling}
use Rattle.verdicts.specs.Used.{used}

-- ---- what a decision says

-- the SMF that the payload goes to
abbrev pub smf_of : Decision → Option ℕ
smf_of (Forward m) = Some m
smf_of (Establish m emergency) = Some m
smf_of (Return cause) = None

-- the number of the cause that it goes back with
abbrev pub cause_of : Decision → Option ℕ
cause_of (Forward m) = None
cause_of (Establish m emergency) = None
cause_of (Return cause) = Some (cause_number cause)

-- the back-off octet that goes with it
abbrev pub octet_of : Decision → Option ℕ
octet_of (Forward m) = None
octet_of (Establish m emergency) = None
octet_of (Return cause) = back_off_octet cause

-- a context is to be put
abbrev pub establishes : Decision → Bool
establishes (Forward m) = false
establishes (Establish m emergency) = true
establishes (Return cause) = false

-- ---- the verdict

-- what becomes of the payload where a directory is asked, which is open or closed, and chose this SMF, if any
abbrev pub chosen : Bool → Bool → Option ℕ → Decision
chosen emergency false m = Return NotForwarded
chosen emergency true None = Return DnnNotSupported
chosen emergency true (Some m) = Establish m emergency

abbrev pub decision : Outcome → Bool → Option ℕ → Decision
decision (Settled d) opened m = d
decision (Choose emergency) opened m = chosen emergency opened m

-- the verdict on a case, with a directory that is open or closed, and the SMF that it chose, if it was asked and chose one
abbrev pub verdict : Case → Bool → Option ℕ → Verdict
verdict c opened m = record { used = used c.asked (standing c); decision = decision (ruling c).outcome opened m; release = (ruling c).release }

-- the context that a decision establishes for session k of UE u, with this slice and DNN
abbrev pub established_by : Decision → SliceDnn → ℕ → ℕ → Option Context
established_by (Forward m) used u k = None
established_by (Establish m emergency) used u k =
    Some (record { ue = u; session = k; smf = m; emergency = emergency; slice = used.slice; dnn = used.dnn })
established_by (Return cause) used u k = None

abbrev pub context_of : Verdict → ℕ → ℕ → Option Context
context_of v u k = established_by v.decision v.used u k
