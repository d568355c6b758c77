-- The rules ask of contexts only what each session of each UE looks up to.
use Rattle.std.proofs.Common.{◌≡◌, ℕ, Bool, not, ◌&&◌, ◌||◌, eqb, nat_le, List, ◌∷◌, is_some, Option, unwrap_or, sym, ◌∙◌}
use Rattle.std.specs.List.{find, count_by}
use Rattle.std.specs.Option.{option_or, option_and_then}
use Rattle.codes.specs.declared.cause.Cause.TheVariants.{NotForwarded, MaximumSessions}
use Rattle.codes.specs.declared.request_type.RequestType.TheVariants.{Initial, Existing}
use Rattle.codes.specs.declared.slice_dnn.SliceDnn.{SliceDnn}
use Rattle.control.specs.declared.control_key.ControlKey.{ControlKey}
use Rattle.records.specs.Configurations.{emergency_smf}
use Rattle.stores.specs.declared.context.Context.{Context}
use Rattle.stores.specs.Contexts.{lookup, others_of, lowest_emergency, is_emergency, sessions}
use Rattle.verdicts.specs.declared.decision.Decision.TheVariants.{Return}
use Rattle.verdicts.specs.declared.ruling.Ruling.{Ruling}
use Rattle.verdicts.specs.Rulings.{settled}
use Rattle.verdicts.specs.Cases.{Asked, Case, over, standing, requests}
use Rattle.verdicts.specs.Rules as given
use Rattle.verdicts.specs.Rules.{ruling_with, first_ruling, smf_in, ruling}
use Rattle.verdicts.specs.Used.{used}
use Rattle.verdicts.specs.Verdicts.{verdict, decision}

module _ (xs ys : List Context) (h : (u k : ℕ) → lookup xs u k ≡ lookup ys u k) (a : Asked) where
  lowest : lowest_emergency xs a.ue.number a.session ≡ lowest_emergency ys a.ue.number a.session
  lowest =
      λ i. find (λ j. not (eqb j a.session) && is_emergency (h a.ue.number j i)) sessions

  others : others_of xs a.ue.number a.session ≡ others_of ys a.ue.number a.session
  others = λ i. count_by (λ j. not (eqb j a.session) && is_some (h a.ue.number j i)) sessions

  awaits : (o : Option Context) → given.awaits_with_emergency a xs o ≡ given.awaits_with_emergency a ys o
  unfolding given.awaits_with_emergency
  awaits o = λ i. requests Initial a && (a.ue.awaits_registration && (is_emergency o || is_some (lowest i)))

  limit : given.at_limit a xs ≡ given.at_limit a ys
  unfolding given.at_limit
  limit = λ i. (requests Initial a || requests Existing a) && nat_le a.ue.session_limit (others i)

  urgent : given.emergency_smf_of a xs ≡ given.emergency_smf_of a ys
  unfolding given.emergency_smf_of
  urgent =
      λ i. option_or (option_and_then (λ j. smf_in (h a.ue.number j i)) (lowest i)) (emergency_smf a.configuration)

  -- the rules with these three in them
  abbrev first_with : Bool → Bool → Option ℕ → (ControlKey → Option ℕ) → Option Context → SliceDnn → Ruling
  first_with b d m back_off o u =
      first_ruling (record { applies = b; ruling = settled (Return NotForwarded) } ∷ record { applies = is_some (given.congestion a back_off u); ruling = settled (Return (unwrap_or (given.congestion a back_off u) NotForwarded)) } ∷ record { applies = d; ruling = settled (Return MaximumSessions) } ∷ record { applies = given.barred a o; ruling = settled (Return NotForwarded) } ∷ given.routes a m o)

  same_ruling : (back_off : ControlKey → Option ℕ) (o : Option Context) (u : SliceDnn) → ruling_with a xs back_off o u ≡ ruling_with a ys back_off o u
  unfolding ruling_with
  same_ruling back_off o u = λ i. first_with (awaits o i) (limit i) (urgent i) back_off o u

pub ruling_alike : (c : Case) (ys : List Context) → ((u k : ℕ) → lookup ys u k ≡ lookup c.contexts u k) → ruling c ≡ ruling (over ys c)
ruling_alike c ys h =
    let a = c.asked in
    let o : standing c ≡ standing (over ys c) = sym (h a.ue.number a.session) in
    same_ruling c.contexts ys (λ u k. sym (h u k)) a c.back_off (standing c) (used a (standing c)) ∙ (λ i. ruling_with a ys c.back_off (o i) (used a (o i)))

pub alike : (c : Case) (ys : List Context) (opened : Bool) (m : Option ℕ) → ((u k : ℕ) → lookup ys u k ≡ lookup c.contexts u k) → verdict c opened m ≡ verdict (over ys c) opened m
alike c ys opened m h =
    let a = c.asked in
    let o : standing c ≡ standing (over ys c) = sym (h a.ue.number a.session) in
    let r : ruling c ≡ ruling (over ys c) = ruling_alike c ys h in
    λ i. record { used = used a (o i); decision = decision (r i).outcome opened m; release = (r i).release }
