-- Tickets that are open.
use Rattle.std.proofs.Common.{◌≡◌, ℕ, ◌<◌, true, Bool, cond, not, ◌&&◌, eqb, List, length, slice_set, is_some, Some, None, Option, refl, ap, ◌∙◌}
use Rattle.std.proofs.lemmas.Bool.{eq-eqb}
use Rattle.std.proofs.lemmas.List.{get_or-set_same}
use Rattle.flights.specs.declared.flight.Flight.{Flight}
use Rattle.flights.specs.declared.flight.Mark.{Mark}
use Rattle.flights.specs.declared.flight.Mark.TheVariants.{InHand}
use Rattle.flights.specs.Slots.{held, in_hand, is_parked_mark}

held_new : (f : Flight) → f.mark ≡ InHand → is_some (held f.number (Some f)) ≡ true
held_new f e =
    ap (λ (m : Mark). is_some (cond (not (is_parked_mark m) && eqb f.number f.number) (Some f) None)) e ∙ ap (λ (b : Bool). is_some (cond b (Some f) None)) (eq-eqb f.number f.number refl)

-- the ticket of a flight that was just placed is open
pub opened : (flights : List (Option Flight)) (slot : ℕ) (f : Flight) → slot < length flights → f.mark ≡ InHand → is_some (in_hand (slice_set flights slot (Some f)) f.number slot) ≡ true
opened flights slot f within e =
    ap (λ (o : Option Flight). is_some (held f.number o)) (get_or-set_same flights slot (Some f) None within) ∙ held_new f e
