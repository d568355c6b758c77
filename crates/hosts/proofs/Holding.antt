-- Tickets that are held stay open while the others change.
use Rattle.std.proofs.Common.{◌≡◌, ℕ, ◌+◌, true, false, ◌&&◌, not, eqb, List, [], ◌∷◌, ◌++◌, set, take, drop, is_some, None, Option, sym, refl, ap, subst, ◌∙◌}
use Rattle.std.proofs.lemmas.Bool.{and_parts, and_from, both_ways, eqb-false, ne_eqb, not-true, not_from_false}
use Rattle.std.proofs.lemmas.List.{append-nil, get_or-set_other, drop_more, take-append-drop}
use Rattle.flights.specs.declared.flight.Flight.{Flight}
use Rattle.flights.specs.Slots.{held, in_hand}
use Rattle.router.specs.declared.ticket.Ticket.{Ticket}
use Rattle.hosts.specs.Holdings.{is_open, none_of, all_open, TakenOut}

abbrev Flights : Type 0
Flights = List (Option Flight)

other : (k j : ℕ) → not (eqb k j) ≡ true → k ≡ j → ⊥
other k j h = eqb-false k j (not-true (eqb k j) h)

differ : (k j : ℕ) → (k ≡ j → ⊥) → not (eqb k j) ≡ true
differ k j n = not_from_false (eqb k j) (ne_eqb k j n)

-- what holds of the first of some tickets and of the others
pub record Parts (flights : Flights) (t : Ticket) (ts : List Ticket) : Type 0 where
  pub opened : is_open flights t ≡ true
  pub apart : none_of t.slot ts ≡ true
  pub rest : all_open flights ts ≡ true

parts : (flights : Flights) (t : Ticket) (ts : List Ticket) → all_open flights (t ∷ ts) ≡ true → Parts flights t ts
parts flights t ts h =
    let a = and_parts (is_open flights t) (none_of t.slot ts && all_open flights ts) h in
    let b = and_parts (none_of t.slot ts) (all_open flights ts) a.1 in
    record { opened = a.0; apart = b.0; rest = b.1 }

joined : (flights : Flights) (t : Ticket) (ts : List Ticket) → Parts flights t ts → all_open flights (t ∷ ts) ≡ true
joined flights t ts p = and_from _ _ p.opened (and_from _ _ p.apart p.rest)

-- a change of slot k leaves tickets of other slots open
pub stay_open : (flights : Flights) (k : ℕ) (o : Option Flight) (ts : List Ticket) → none_of k ts ≡ true → all_open flights ts ≡ true → all_open (set flights k o) ts ≡ true
stay_open flights k o [] n h = refl
stay_open flights k o (t ∷ ts) n h =
    let m = and_parts (not (eqb t.slot k)) (none_of k ts) n in
    let p = parts flights t ts h in
    joined (set flights k o) t ts (record {
      opened = ap (λ (f : Option Flight). is_some (held t.number f)) (get_or-set_other flights k t.slot o None (other t.slot k m.0)) ∙ p.opened;
      apart = p.apart;
      rest = stay_open flights k o ts m.1 p.rest;
    })

-- no ticket that is open is of a slot whose ticket is not in hand
pub apart_from : (flights : Flights) (k : ℕ) → ((n : ℕ) → is_some (in_hand flights n k) ≡ false) → (ts : List Ticket) → all_open flights ts ≡ true → none_of k ts ≡ true
apart_from flights k e [] h = refl
apart_from flights k e (t ∷ ts) h =
    let p = parts flights t ts h in
    and_from _ _ (differ t.slot k (λ z. both_ways _ (e t.number) (subst (λ (j : ℕ). is_some (in_hand flights t.number j) ≡ true) z p.opened))) (apart_from flights k e ts p.rest)

none_added : (k : ℕ) (ts : List Ticket) (t : Ticket) → not (eqb t.slot k) ≡ true → none_of k ts ≡ true → none_of k (ts ++ t ∷ []) ≡ true
none_added k [] t d n = and_from _ _ d refl
none_added k (a ∷ ts) t d n =
    let m = and_parts (not (eqb a.slot k)) (none_of k ts) n in
    and_from _ _ m.0 (none_added k ts t d m.1)

-- one more that is open, of a slot that none of them is of
pub added : (flights : Flights) (ts : List Ticket) (t : Ticket) → all_open flights ts ≡ true → none_of t.slot ts ≡ true → is_open flights t ≡ true → all_open flights (ts ++ t ∷ []) ≡ true
added flights [] t h n o = joined flights t [] (record { opened = o; apart = refl; rest = refl })
added flights (a ∷ ts) t h n o =
    let m = and_parts (not (eqb a.slot t.slot)) (none_of t.slot ts) n in
    let p = parts flights a ts h in
    joined flights a (ts ++ t ∷ []) (record {
      opened = p.opened;
      apart = none_added a.slot ts t (differ t.slot a.slot (λ z. other a.slot t.slot m.0 (sym z))) p.apart;
      rest = added flights ts t p.rest m.1 o;
    })

-- ---- one of them taken out

none_out : (k : ℕ) (before behind : List Ticket) (t : Ticket) → none_of k (before ++ t ∷ behind) ≡ true → (not (eqb t.slot k) ≡ true) × (none_of k (before ++ behind) ≡ true)
none_out k [] behind t h = and_parts (not (eqb t.slot k)) (none_of k behind) h
none_out k (a ∷ before) behind t h =
    let m = and_parts (not (eqb a.slot k)) (none_of k (before ++ t ∷ behind)) h in
    let r = none_out k before behind t m.1 in
    (r.0, and_from _ _ m.0 r.1)

-- it was open, and the others are, and none of them is of its slot
pub out : (flights : Flights) (before behind : List Ticket) (t : Ticket) → all_open flights (before ++ t ∷ behind) ≡ true → Parts flights t (before ++ behind)
out flights [] behind t h = parts flights t behind h
out flights (a ∷ before) behind t h =
    let p = parts flights a (before ++ t ∷ behind) h in
    let n = none_out a.slot before behind t p.apart in
    let r = out flights before behind t p.rest in
    record {
      opened = r.opened;
      apart = and_from _ _ (differ a.slot t.slot (λ z. other t.slot a.slot n.0 (sym z))) r.apart;
      rest = joined flights a (before ++ behind) (record { opened = p.opened; apart = n.1; rest = r.rest });
    }

split : (xs : List Ticket) (t : Ticket) (ys : List Ticket) → (o : TakenOut xs t ys) → take o.place xs ++ t ∷ drop (o.place + 1) xs ≡ xs
split xs t ys o =
    ap (λ (l : List Ticket). take o.place xs ++ l) (ap (λ (u : Ticket). u ∷ drop (o.place + 1) xs) o.is ∙ sym (drop_more xs o.place t o.within)) ∙ take-append-drop o.place xs

pub taken_out : (flights : Flights) (xs : List Ticket) (t : Ticket) (ys : List Ticket) → all_open flights xs ≡ true → TakenOut xs t ys → Parts flights t ys
taken_out flights xs t ys h o =
    subst (λ (l : List Ticket). Parts flights t l) (sym o.rest)
    (out flights (take o.place xs) (drop (o.place + 1) xs) t (ap (all_open flights) (split xs t ys o) ∙ h))

pub last_out : (flights : Flights) (xs : List Ticket) (t : Ticket) (ys : List Ticket) → all_open flights xs ≡ true → xs ≡ ys ++ t ∷ [] → Parts flights t ys
last_out flights xs t ys h e =
    subst (λ (l : List Ticket). Parts flights t l) (append-nil ys) (out flights ys [] t (ap (all_open flights) (sym e) ∙ h))
