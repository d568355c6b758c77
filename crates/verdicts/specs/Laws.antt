-- What holds of every verdict, in words other than the rules'.
use Rattle.std.specs.Prelude.{◌≡◌, ℕ, ◌≤◌, Bool, true, false, ◌⊎◌, ◌↔◌, List, Some, None, Ok, Err, Option, Result, option_map, ◌==◌}
use Rattle.std.specs.List.{find, list_any}
use Rattle.codes.specs.declared.cause.Cause.TheVariants.{DnnNotSupported}
use Rattle.codes.specs.declared.slice_dnn.SliceDnn.{SliceDnn}
use Rattle.codes.specs.declared.request_type.RequestType.TheVariants.{Initial}
use Rattle.codes.specs.Causes.{cause_number}
use Rattle.directories.specs.declared.no_smf.NoSmf.{NoSmf}
use Rattle.directories.specs.declared.no_smf.NoSmf.TheVariants.{Closed, NoneServes}
use Rattle.directories.specs.Choices.{Chosen}
use Rattle.codes.specs.Sessions.{session_fits}
use Rattle.records.specs.Configurations.{configuration_fits, emergency_smf}
use Rattle.records.specs.Records.{record_fits}
use Rattle.stores.specs.declared.context.Context.{Context}
use Rattle.stores.specs.Contexts.{fits, lookup, emergency_at}
use Rattle.verdicts.specs.declared.decision.Decision.{Decision}
use Rattle.verdicts.specs.declared.outcome.Outcome.{Outcome}
use Rattle.verdicts.specs.declared.outcome.Outcome.TheVariants.{Settled, Choose}
use Rattle.verdicts.specs.declared.ruling.Ruling.{Ruling}
use Rattle.verdicts.specs.Rulings.{asks_directory}
use Rattle.verdicts.specs.declared.verdict.Verdict.{Verdict}
use Rattle.verdicts.specs.Cases.{Case, over, standing, requests}
use Rattle.verdicts.specs.Rules.{Rule, rules, ruling, smf_in}
use Rattle.verdicts.specs.Verdicts.{smf_of, cause_of, octet_of, establishes, context_of, verdict}

-- what a directory answers that is open or closed and chose this SMF, if any
abbrev pub answer_of : Bool → Option ℕ → Result ℕ NoSmf
answer_of false m = Err Closed
answer_of true None = Err NoneServes
answer_of true (Some m) = Ok m

-- the SMF that a directory chose where the rules say this, and the decision was that
abbrev pub choice_of : Outcome → Decision → Option ℕ
choice_of (Settled d) e = None
choice_of (Choose emergency) e = smf_of e

-- Of the rules one decides: at least one applies, and what is ruled is the first one's ruling.
pub record OneRule (rs : List Rule) (r : Ruling) : Type 0 where
  pub covered : list_any (λ rule. rule.applies) rs ≡ true
  pub first : option_map (λ rule. rule.ruling) (find (λ rule. rule.applies) rs) ≡ Some r

-- ---- where an SMF comes from

-- it has the context of the session that is asked for
abbrev pub StandingSmf : Case → ℕ → Type 0
StandingSmf c m = smf_in (standing c) ≡ Some m

-- a known line of the UE names it
abbrev pub KnownSmf : Case → ℕ → Type 0
KnownSmf c m = list_any (λ l. l.smf == m) c.asked.ue.known ≡ true

-- it has an emergency context of another session of the UE
abbrev pub EmergencySmf : Case → ℕ → Type 0
EmergencySmf c m =
    (j : ℕ) × (emergency_at c.contexts c.asked.ue.number c.asked.session j ≡ true) × (smf_in (lookup c.contexts c.asked.ue.number j) ≡ Some m)

-- it is the static one of emergency sessions
abbrev pub StaticSmf : Case → ℕ → Type 0
StaticSmf c m = emergency_smf c.asked.configuration ≡ Some m

-- the directory, which is open, has it for the slice and the DNN
abbrev pub ServingSmf : Bool → (ℕ → ℕ → ℕ → Bool) → SliceDnn → ℕ → Type 0
ServingSmf opened serves u m = (opened ≡ true) × (serves u.slice u.dnn m ≡ true)

-- ---- bounds

-- Everything that is told and that stands is in bounds: the book has n names.
pub record InBounds (n : ℕ) (c : Case) (serves : ℕ → ℕ → ℕ → Bool) : Type 0 where
  pub book_in : n ≤ 64
  pub record_in : record_fits n c.asked.ue ≡ true
  pub configuration_in : configuration_fits n c.asked.configuration ≡ true
  pub session_in : session_fits c.asked.session ≡ true
  pub dnn_in : (d : ℕ) → c.asked.dnn ≡ Some d → d ≤ n
  pub contexts_in : (u k : ℕ) (x : Context) → lookup c.contexts u k ≡ Some x → fits x ≡ true
  pub identified : (s d : ℕ) → serves s d 0 ≡ false

-- ---- all that holds of the verdict v on a case, where the directory is open or closed and has these SMFs

pub record Judged (c : Case) (opened : Bool) (serves takes : ℕ → ℕ → ℕ → Bool) (v : Verdict) : Type 0 where
  -- it is the one that the rules give, with the SMF that the directory chose, if it was asked and chose one
  pub value : v ≡ verdict c opened (choice_of (ruling c).outcome v.decision)
  -- the contexts count only by what each session of each UE looks up to, so in whatever order they are kept
  pub set : (ys : List Context) → ((u k : ℕ) → lookup ys u k ≡ lookup c.contexts u k) → v ≡ verdict (over ys c) opened (choice_of (ruling c).outcome v.decision)
  -- one rule decides
  pub rule : OneRule (rules c) (ruling c)
  -- the directory's choice is right
  pub choice : asks_directory (ruling c).outcome ≡ true → Chosen opened (serves v.used.slice v.used.dnn) (takes v.used.slice v.used.dnn) (answer_of opened (smf_of v.decision))
  -- a payload goes only to an SMF that is named for it
  pub named : (m : ℕ) → smf_of v.decision ≡ Some m → StandingSmf c m ⊎ (KnownSmf c m ⊎ (EmergencySmf c m ⊎ (StaticSmf c m ⊎ ServingSmf opened serves v.used m)))
  -- it goes back as not supported exactly where a directory has to choose that is open and has none
  pub unserved : cause_of v.decision ≡ Some (cause_number DnnNotSupported) ↔ ((asks_directory (ruling c).outcome ≡ true) × (opened ≡ true) × ((m : ℕ) → serves v.used.slice v.used.dnn m ≡ false))
  -- congestion never holds off a UE of high priority
  pub priority : c.asked.ue.high_priority ≡ true → octet_of v.decision ≡ None
  -- with no request type nothing is established,
  pub untyped : c.asked.request ≡ None → establishes v.decision ≡ false
  -- and the payload goes to the SMF of the context that stands
  pub kept : (x : Context) → c.asked.request ≡ None → standing c ≡ Some x → smf_of v.decision ≡ Some x.smf
  -- a session is released only for an initial request, at the SMF that had it
  pub released : (m : ℕ) → v.release ≡ Some m → (requests Initial c.asked ≡ true) × StandingSmf c m
  -- where all is in bounds, so is the context that is to be put
  pub bounded : (n : ℕ) → InBounds n c serves → (x : Context) → context_of v c.asked.ue.number c.asked.session ≡ Some x → fits x ≡ true
