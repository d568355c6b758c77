-- The rules by which a payload is forwarded or returned. The first that applies decides.
use Rattle.std.specs.Prelude.{ℕ, Bool, true, false, cond, not, ◌&&◌, ◌||◌, List, [], ◌∷◌, is_some, Some, None, Option, unwrap_or, option_map, option_and_then, nat_le}
use Rattle.std.specs.Option.{option_or}
use Rattle.codes.specs.declared.cause.Cause.{Cause}
use Rattle.codes.specs.declared.cause.Cause.TheVariants.{Congestion, SliceAndDnnCongestion, SliceCongestion, NotForwarded, MaximumSessions}
use Rattle.codes.specs.declared.request_type.RequestType.TheVariants.{Initial, Existing, InitialEmergency, ExistingEmergency, Modification}
use Rattle.codes.specs.declared.slice_dnn.SliceDnn.{SliceDnn}
use Rattle.control.specs.declared.control_key.ControlKey.{ControlKey}
use Rattle.control.specs.declared.control_key.ControlKey.TheVariants.{Dnn, SliceAndDnn, Slice}
use Rattle.stores.specs.declared.context.Context.{Context}
use Rattle.stores.specs.Contexts.{lookup, others_of, lowest_emergency, is_emergency}
use Rattle.records.specs.Configurations.{emergency_smf}
use Rattle.records.specs.Firsts.{allows, known_session, known_dnn}
use Rattle.verdicts.specs.declared.decision.Decision.TheVariants.{Forward, Establish, Return}
use Rattle.verdicts.specs.declared.outcome.Outcome.{Outcome}
use Rattle.verdicts.specs.declared.outcome.Outcome.TheVariants.{Settled, Choose}
use Rattle.verdicts.specs.declared.ruling.Ruling.{Ruling}
use Rattle.verdicts.specs.Rulings.{only, settled, asks_directory}
use Rattle.verdicts.specs.Cases.{Asked, Case, standing, requests, for_emergency}
use Rattle.verdicts.specs.Used.{used}

-- ---- what the rules ask. The context of the session that is asked for is o, the slice and the DNN used are u.

-- the UE has an emergency context, of this session or of another
abbrev pub has_emergency : Asked → List Context → Option Context → Bool
has_emergency a xs o = is_emergency o || is_some (lowest_emergency xs a.ue.number a.session)

-- the request is initial, and the UE awaits a mobility registration and has an emergency context
unfoldable pub awaits_with_emergency : Asked → List Context → Option Context → Bool
awaits_with_emergency a xs o = requests Initial a && (a.ue.awaits_registration && has_emergency a xs o)

-- the request is one that congestion holds off: initial, existing or modification, of a UE with no high priority
unfoldable pub held_off : Asked → Bool
held_off a =
    (requests Initial a || (requests Existing a || requests Modification a)) && not a.ue.high_priority

-- the cause of a control line for the DNN; else for the slice and the DNN; else for the slice
abbrev pub control_cause : (ControlKey → Option ℕ) → SliceDnn → Option Cause
control_cause back_off u =
    option_or (option_map Congestion (back_off (Dnn u.dnn)))
    (option_or (option_map SliceAndDnnCongestion (back_off (SliceAndDnn u.slice u.dnn)))
    (option_map SliceCongestion (back_off (Slice u.slice))))

-- that cause, for a request that congestion holds off
unfoldable pub congestion : Asked → (ControlKey → Option ℕ) → SliceDnn → Option Cause
congestion a back_off u = cond (held_off a) (control_cause back_off u) None

-- the request is initial or existing, and the UE has as many other contexts as it may have sessions
unfoldable pub at_limit : Asked → List Context → Bool
at_limit a xs =
    (requests Initial a || requests Existing a) && nat_le a.ue.session_limit (others_of xs a.ue.number a.session)

-- the context is no emergency context, and no allowed line has its slice
abbrev pub is_barred : Asked → Option Context → Bool
is_barred a None = false
is_barred a (Some x) = not x.emergency && not (allows a.ue x.slice)

-- the request is existing, and the context may not be moved here
unfoldable pub barred : Asked → Option Context → Bool
barred a o = requests Existing a && is_barred a o

-- ---- what they rule

-- to an SMF, for which a context is put, or back where there is none
abbrev pub established : Bool → Option ℕ → Outcome
established emergency None = Settled (Return NotForwarded)
established emergency (Some m) = Settled (Establish m emergency)

-- an emergency request for a session that has this context: to its SMF, if it is an emergency context
abbrev pub kept_emergency : Context → Outcome
kept_emergency x = Settled (cond x.emergency (Forward x.smf) (Return NotForwarded))

-- to the SMF of the context that stands
unfoldable pub kept_outcome : Asked → Option Context → Outcome
kept_outcome a None = Settled (Return NotForwarded)
kept_outcome a (Some x) = cond (for_emergency a) (kept_emergency x) (Settled (Forward x.smf))

-- the SMF of the first known line of the session; else of the first of the DNN, if the message names one
unfoldable pub known_smf : Asked → Option ℕ
known_smf a = option_or (known_session a.ue a.session) (option_and_then (known_dnn a.ue) a.dnn)

abbrev pub smf_in : Option Context → Option ℕ
smf_in o = option_map (λ x. x.smf) o

-- the SMF of the UE's lowest other emergency session; else the static one
unfoldable pub emergency_smf_of : Asked → List Context → Option ℕ
emergency_smf_of a xs =
    option_or (option_and_then (λ j. smf_in (lookup xs a.ue.number j)) (lowest_emergency xs a.ue.number a.session)) (emergency_smf a.configuration)

-- to the SMF m, if there is one, and else to the directory's choice
abbrev pub or_choice : Option ℕ → Outcome
or_choice None = Choose true
or_choice (Some m) = Settled (Establish m true)

-- ---- the rules

pub record Rule : Type 0 where
  pub applies : Bool
  pub ruling : Ruling

-- no context stands
abbrev pub none : Option Context → Bool
none o = not (is_some o)

-- Where a payload goes unless it goes back by one of the first four rules. The SMF for an emergency session is emergency, if there is
-- one without asking a directory.
abbrev pub routes : Asked → Option ℕ → Option Context → List Rule
routes a emergency o =
    -- 5: a context stands, and the request is not initial
    record { applies = is_some o && not (requests Initial a); ruling = only (kept_outcome a o) } ∷
    -- 6: an initial request; a context that stands is released
    record { applies = requests Initial a; ruling = record { outcome = Choose false; release = smf_in o } } ∷
    -- 7: an existing request with no context
    record { applies = none o && requests Existing a; ruling = only (established false (known_smf a)) } ∷
    -- 8: an initial emergency request with no context
    record { applies = none o && requests InitialEmergency a; ruling = only (or_choice emergency) } ∷
    -- 9: an existing emergency request with no context
    record { applies = none o && requests ExistingEmergency a; ruling = only (established true (known_dnn a.ue a.configuration.emergency.dnn)) } ∷
    -- 10: no context, and no request type or a modification
    record { applies = none o && (not (is_some a.request) || requests Modification a); ruling = settled (Return NotForwarded) } ∷
    []

abbrev pub rules_with : Asked → List Context → (ControlKey → Option ℕ) → Option Context → SliceDnn → List Rule
rules_with a xs back_off o u =
    -- 1: an initial request of a UE that awaits a mobility registration and has an emergency context
    record { applies = awaits_with_emergency a xs o; ruling = settled (Return NotForwarded) } ∷
    -- 2: congestion
    record { applies = is_some (congestion a back_off u); ruling = settled (Return (unwrap_or (congestion a back_off u) NotForwarded)) } ∷
    -- 3: an initial or existing request of a UE that has as many other sessions as it may have
    record { applies = at_limit a xs; ruling = settled (Return MaximumSessions) } ∷
    -- 4: an existing request, of a context that may not be moved here
    record { applies = barred a o; ruling = settled (Return NotForwarded) } ∷
    -- 5 to 10
    routes a (emergency_smf_of a xs) o

abbrev pub rules : Case → List Rule
rules c =
    rules_with c.asked c.contexts c.back_off (standing c) (used c.asked (standing c))

-- what the first rule that applies rules
abbrev pub first_ruling : List Rule → Ruling
first_ruling [] = settled (Return NotForwarded)
first_ruling (r ∷ rs) = cond r.applies r.ruling (first_ruling rs)

unfoldable pub ruling_with : Asked → List Context → (ControlKey → Option ℕ) → Option Context → SliceDnn → Ruling
ruling_with a xs back_off o u = first_ruling (rules_with a xs back_off o u)

abbrev pub ruling : Case → Ruling
ruling c =
    ruling_with c.asked c.contexts c.back_off (standing c) (used c.asked (standing c))

-- a directory has to choose on this case
abbrev pub has_choice : Case → Bool
has_choice c = asks_directory (ruling c).outcome

-- ---- the same in two halves

-- why a payload goes back whether or not a context stands
unfoldable pub objection : Asked → List Context → (ControlKey → Option ℕ) → Option Context → SliceDnn → Option Cause
objection a xs back_off o u =
    cond (awaits_with_emergency a xs o) (Some NotForwarded)
    (option_or (congestion a back_off u)
    (cond (at_limit a xs) (Some MaximumSessions)
    (cond (barred a o) (Some NotForwarded) None)))

unfoldable pub route : Asked → List Context → Option Context → Ruling
route a xs o = first_ruling (routes a (emergency_smf_of a xs) o)
