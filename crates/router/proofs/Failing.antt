-- A failure that is carried out.
use Rattle.std.proofs.Common.{◌≡◌, ℕ, ◌+◌, Bool, true, false, nat_le, List, length, Some, Ok, is_ok, refl, sym, ◌∙◌, ap, subst}
use Rattle.std.proofs.lemmas.Bool.{false≢true, cond-true, eq-eqb}
use Rattle.codes.specs.declared.cause.Cause.TheVariants.{NotForwarded}
use Rattle.codes.specs.declared.refusal.Refusal.TheVariants.{OutputLength}
use Rattle.accounts.specs.Receives.{passing, pool_length}
use Rattle.flights.specs.declared.flight.Flight.{Flight}
use Rattle.nas.specs.Returns.{returned, return_overhead}
use Rattle.runs.specs.Models.{Model, Token, slot_octets}
use Rattle.runs.specs.Calls.{Fails, Undone, flight, of_flight, undelivered}

passed : (b : Bool) (n k : ℕ) → Ok n ≡ passing b OutputLength (Ok k) → b ≡ true
passed true n k e = refl
passed false n k e = absurd (false≢true (ap is_ok (sym e)))

same_flight : (f g : Flight) → Some f ≡ Some g → f ≡ g
same_flight f g e = cc

pub fails : (m : Model) (pool output n k : ℕ) (t : Token) (f : Flight) (payload octets : List ℕ) (x : Model) → pool ≡ pool_length → flight m t ≡ Some f → payload ≡ slot_octets m.pool t.slot f.length → length payload ≡ f.length → Ok n ≡ passing (nat_le (length payload + return_overhead) output) OutputLength (Ok k) → octets ≡ returned payload f.session NotForwarded → Undone m t.slot f x → Fails m pool output t (Ok octets) x
fails m pool output n k t f payload octets x whole here is long fits written undone = record {
  answer = sym (cond-true _ _ _ (eq-eqb pool pool_length whole) ∙ ap (λ o. of_flight o (λ f. passing (nat_le (f.length + return_overhead) output) OutputLength (Ok (undelivered m t f)))) here ∙ cond-true _ _ _ (ap (λ l. nat_le (l + return_overhead) output) (sym long) ∙ passed _ n k fits) ∙ ap Ok (ap (λ l. returned l f.session NotForwarded) (sym is) ∙ sym written));
  does = λ g there. subst (λ h. Undone m t.slot h x) (same_flight f g (sym here ∙ there)) undone;
}
