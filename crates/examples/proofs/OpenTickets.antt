-- An open ticket is taken and parked, and a ticket that was picked is open.
use Rattle.std.proofs.Common.{◌≡◌, ℕ, Bool, true, false, ◌&&◌, cond, eqb, is_some, is_ok, position, Option, Some, None, Result, Ok, Err, refl, sym, ap, ◌∙◌}
use Rattle.std.proofs.lemmas.Bool.{false≢true}
use Rattle.std.proofs.lemmas.List.{get_or-set_same}
use Rattle.std.proofs.lemmas.List.Quantifiers.{position-Some}
use Rattle.flights.specs.declared.flight.Flight.{Flight}
use Rattle.flights.specs.declared.flight.Mark.TheVariants.{InHand}
use Rattle.flights.specs.Slots.{at, held, is_parked, is_parked_mark, marked, with_mark}
use Rattle.runs.specs.Calls.{flight, of_flight, Parks, Picks, Takes, ticket_at}
use Rattle.runs.specs.Models.{Model, Token, remarked}

answered : {X : Type 0} (o : Option Flight) (x : Flight → X) (e : ℕ) → is_some o ≡ true → Err e ≡ of_flight o (λ f. Ok (x f)) → ⊥
answered None x e here a = absurd (false≢true here)
answered (Some f) x e here a = absurd (false≢true (ap is_ok a))

pub taken : (m n : Model) (t : Token) (e : ℕ) → is_some (flight m t) ≡ true → Takes m t (Err e) n → ⊥
taken m n t e here takes = answered (flight m t) (λ f. tt) e here takes.answer

pub parked : (m n : Model) (t : Token) (e : ℕ) → is_some (flight m t) ≡ true → Parks m t (Err e) n → ⊥
parked m n t e here parks = answered (flight m t) (λ f. f.number) e here parks.answer

second : (a b : Bool) → (a && b) ≡ true → b ≡ true
second true b e = e
second false b e = absurd (false≢true e)

marked_held : (number : ℕ) (o : Option Flight) → is_parked number o ≡ true → is_some (held number (marked InHand o)) ≡ true
marked_held number None e = absurd (false≢true e)
marked_held number (Some f) e =
    ap (λ (b : Bool). is_some (cond b (Some (with_mark InHand f)) None)) (second (is_parked_mark f.mark) (eqb f.number number) e)

same_token : (t u : Token) (r : Result Token ℕ) → r ≡ Ok t → r ≡ Ok u → t ≡ u
same_token t u r e f = cc

pub picked : (m n : Model) (number : ℕ) (t : Token) → Picks m number (Ok t) n → is_some (flight n t) ≡ true
picked m n number t picks = go (position (is_parked number) m.flights) refl picks.answer
  where
    go : (o : Option ℕ) → position (is_parked number) m.flights ≡ o → Ok t ≡ ticket_at number o → is_some (flight n t) ≡ true
    go None e a = absurd (false≢true (ap is_ok (sym a)))
    go (Some k) e a =
        let place = position-Some (is_parked number) m.flights k None e in
        ap (λ (x : Model). is_some (flight x t)) (picks.does t refl) ∙ ap (λ (u : Token). is_some (flight (remarked InHand u.slot m) u)) (same_token t (record { number = number; slot = k }) (Ok t) refl a) ∙ ap (λ (o : Option Flight). is_some (held number o)) (get_or-set_same m.flights k (marked InHand (at m.flights k)) None place.0) ∙ marked_held number (at m.flights k) place.1
