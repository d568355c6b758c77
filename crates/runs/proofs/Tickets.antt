-- What a call with a ticket found, if it was carried out.
use Rattle.std.proofs.Common.{◌≡◌, ℕ, Bool, true, false, not, ◌&&◌, eqb, Some, None, Ok, Option, Result, is_err, is_some, sym, refl, ap, ◌∙◌}
use Rattle.std.proofs.lemmas.Bool.{and_parts, eqb-true, false≢true}
use Rattle.std.proofs.lemmas.Option.{cond_some}
use Rattle.codes.specs.declared.refusal.Refusal.{Refusal}
use Rattle.accounts.specs.Receives.{passing}
use Rattle.flights.specs.declared.flight.Flight.{Flight}
use Rattle.flights.specs.Slots.{held, is_parked_mark}
use Rattle.runs.specs.Calls.{of_flight}

-- a check did not refuse it
pub passed : {X : Type 0} (b : Bool) (e : Refusal) (q : Result X ℕ) (x : X) → Ok x ≡ passing b e q → Ok x ≡ q
passed true e q x h = h
passed false e q x h = absurd (false≢true (ap is_err h))

-- nor did its ticket
pub opened_flight : {X : Type 0} (q : Option Flight) (F : Flight → Result X ℕ) (x : X) → Ok x ≡ of_flight q F → (f : Flight) × (q ≡ Some f) × (Ok x ≡ F f)
opened_flight None F x h = absurd (false≢true (ap is_err h))
opened_flight (Some f) F x h = (f, refl, h)

-- the flight of a ticket that is open here
pub held_is : (n : ℕ) (o : Option Flight) (f : Flight) → held n o ≡ Some f → (o ≡ Some f) × (f.number ≡ n)
held_is n None f e = absurd (false≢true (ap (λ (x : Option Flight). is_some x) e))
held_is n (Some g) f e =
    let q = cond_some (not (is_parked_mark g.mark) && eqb g.number n) g f e in
    (ap (λ (x : Flight). Some x) q.1, ap (λ (x : Flight). x.number) (sym q.1) ∙ eqb-true g.number n (and_parts (not (is_parked_mark g.mark)) (eqb g.number n) q.0).1)
