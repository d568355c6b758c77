-- Where a context stands and another one is established for its session, the one that stands is released.
use Rattle.std.proofs.Common.{◌≡◌, ℕ, Bool, true, false, cond, not, List, is_some, Some, None, Option, sym, refl, subst}
use Rattle.std.proofs.lemmas.Bool.{false≢true}
use Rattle.codes.specs.declared.cause.Cause.{Cause}
use Rattle.codes.specs.declared.cause.Cause.TheVariants.{NotForwarded}
use Rattle.codes.specs.declared.request_type.RequestType.TheVariants.{Initial}
use Rattle.stores.specs.declared.context.Context.{Context}
use Rattle.verdicts.specs.declared.decision.Decision.TheVariants.{Forward, Return}
use Rattle.verdicts.specs.declared.outcome.Outcome.TheVariants.{Settled, Choose}
use Rattle.verdicts.specs.declared.ruling.Ruling.{Ruling}
use Rattle.verdicts.specs.Rulings.{only}
use Rattle.verdicts.specs.Cases.{Asked, Case, standing, requests, for_emergency}
use Rattle.verdicts.specs.Rules.{objection, route, kept_outcome}
use Rattle.verdicts.specs.Used.{used}
use Rattle.verdicts.specs.Verdicts.{establishes, decision, verdict}
use Rattle.verdicts.proofs.Halves.{unless, halves}

module _ (opened : Bool) (m : Option ℕ) where
  -- if this ruling establishes a context, it releases one
  abbrev Releases : Ruling → Type 0
  Releases r = establishes (decision r.outcome opened m) ≡ true → is_some r.release ≡ true

  -- to the SMF of the context that stands, nothing is established
  kept_never : (a : Asked) (x : Context) → Releases (only (kept_outcome a (Some x)))
  unfolding kept_outcome
  kept_never a x = go (for_emergency a) x.emergency
    where
      go : (b d : Bool) → Releases (only (cond b (Settled (cond d (Forward x.smf) (Return NotForwarded))) (Settled (Forward x.smf))))
      go true true e = absurd (false≢true e)
      go true false e = absurd (false≢true e)
      go false d e = absurd (false≢true e)

  by_route : (a : Asked) (xs : List Context) (o : Option Context) → is_some o ≡ true → Releases (route a xs o)
  unfolding route
  by_route a xs None s = absurd (false≢true s)
  by_route a xs (Some x) s = go (requests Initial a) _ (kept_never a x)
    where
      go : (i : Bool) (rest : Ruling) → Releases (only (kept_outcome a (Some x))) → Releases (cond (not i) (only (kept_outcome a (Some x))) (cond i (record { outcome = Choose false; release = Some x.smf }) rest))
      go true rest k e = refl
      go false rest k e = k e

  -- nothing is established where the payload goes back
  objected : (o : Option Cause) (r : Ruling) → Releases r → Releases (unless o r)
  objected None r h e = h e
  objected (Some cause) r h e = absurd (false≢true e)

pub replaced : (c : Case) (opened : Bool) (m : Option ℕ) → establishes (verdict c opened m).decision ≡ true → is_some (standing c) ≡ true → is_some (verdict c opened m).release ≡ true
replaced c opened m e s =
    let a = c.asked in
    let o = standing c in
    subst (Releases opened m) (sym (halves a c.contexts c.back_off o (used a o))) (objected opened m (objection a c.contexts c.back_off o (used a o)) (route a c.contexts o) (by_route opened m a c.contexts o s)) e
