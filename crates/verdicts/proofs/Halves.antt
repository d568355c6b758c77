-- The rules are first those by which a payload goes back whether or not a context stands, and then the others.
use Rattle.std.proofs.Common.{◌≡◌, ℕ, Bool, true, false, cond, List, is_some, Some, None, Option, unwrap_or, refl}
use Rattle.std.specs.Option.{option_or}
use Rattle.codes.specs.declared.cause.Cause.{Cause}
use Rattle.codes.specs.declared.cause.Cause.TheVariants.{NotForwarded, MaximumSessions}
use Rattle.codes.specs.declared.slice_dnn.SliceDnn.{SliceDnn}
use Rattle.control.specs.declared.control_key.ControlKey.{ControlKey}
use Rattle.stores.specs.declared.context.Context.{Context}
use Rattle.verdicts.specs.declared.decision.Decision.TheVariants.{Return}
use Rattle.verdicts.specs.declared.ruling.Ruling.{Ruling}
use Rattle.verdicts.specs.Rulings.{settled}
use Rattle.verdicts.specs.Cases.{Asked}
use Rattle.verdicts.specs.Rules.{awaits_with_emergency, congestion, at_limit, barred, objection, ruling_with, first_ruling, routes, route, emergency_smf_of}

abbrev pub unless : Option Cause → Ruling → Ruling
unless None r = r
unless (Some cause) r = settled (Return cause)

-- the first four rules in a row, by what each of them asks
first_four : (b : Bool) (o : Option Cause) (d e : Bool) (r : Ruling) → cond b (settled (Return NotForwarded)) (cond (is_some o) (settled (Return (unwrap_or o NotForwarded))) (cond d (settled (Return MaximumSessions)) (cond e (settled (Return NotForwarded)) r))) ≡ unless (cond b (Some NotForwarded) (option_or o (cond d (Some MaximumSessions) (cond e (Some NotForwarded) None)))) r
first_four true o d e r = refl
first_four false (Some x) d e r = refl
first_four false None true e r = refl
first_four false None false true r = refl
first_four false None false false r = refl

pub halves : (a : Asked) (xs : List Context) (back_off : ControlKey → Option ℕ) (o : Option Context) (u : SliceDnn) → ruling_with a xs back_off o u ≡ unless (objection a xs back_off o u) (route a xs o)
unfolding ruling_with objection route
halves a xs back_off o u =
    first_four (awaits_with_emergency a xs o) (congestion a back_off u) (at_limit a xs) (barred a o) (first_ruling (routes a (emergency_smf_of a xs) o))
