-- What the calls of a router leave of the tickets that are held.
use Rattle.std.proofs.Common.{◌≡◌, ℕ, Bool, true, false, cond, ◌&&◌, not, eqb, List, [], ◌∷◌, ◌++◌, set, is_some, Some, None, Ok, Err, Option, Result, sym, refl, ap, subst, ◌∙◌, is_err}
use Rattle.std.specs.List.{position}
use Rattle.std.proofs.lemmas.Bool.{false≢true, and_parts}
use Rattle.std.proofs.lemmas.List.{get_or-set_same}
use Rattle.std.proofs.lemmas.List.Quantifiers.{position-Some}
use Rattle.flights.specs.declared.flight.Flight.{Flight}
use Rattle.flights.specs.declared.flight.Mark.TheVariants.{InHand}
use Rattle.flights.specs.Slots.{at, held, is_parked, is_parked_mark, marked, with_mark}
use Rattle.nas.specs.Uplinks.{Message}
use Rattle.accounts.specs.Receives.{Received, Answer, received}
use Rattle.router.specs.declared.answer.Delivery.{Delivery}
use Rattle.router.specs.declared.answer.Delivery.TheVariants.{Forwarded, Returned}
use Rattle.router.specs.declared.ticket.Ticket.{Ticket}
use Rattle.router.specs.Receiving.{ticket_in, IsOpen}
use Rattle.router.specs.Views.{token}
use Rattle.runs.specs.Models.{Model, Token, state}
use Rattle.runs.specs.Calls.{Releases, Receives, ReceiveDoes, Delivered, Takes, Fails, Parks, Picks, of_flight, flight, ticket_at}
use Rattle.hosts.specs.Holdings.{is_open, none_of, all_open, Fresh, KeepsStore}
use Rattle.hosts.proofs.Holding.{Parts, stay_open, apart_from, added}

abbrev Flights : Type 0
Flights = List (Option Flight)

pub same_open : (old new : Flights) (ts : List Ticket) → new ≡ old → all_open old ts ≡ true → all_open new ts ≡ true
same_open old new ts e h = ap (λ (fs : Flights). all_open fs ts) e ∙ h

-- ---- released

released_flights : (m n : Model) (u k : ℕ) (a : Result (Unit {0}) ℕ) → Releases m u k a n → n.flights ≡ m.flights
released_flights m n u k (Ok x) h = h.does.flights
released_flights m n u k (Err e) h = h.does.flights

pub released : (m n : Model) (u k : ℕ) (a : Result (Unit {0}) ℕ) (ts : List Ticket) → Releases m u k a n → all_open m.flights ts ≡ true → all_open n.flights ts ≡ true
released m n u k a ts h o = same_open m.flights n.flights ts (released_flights m n u k a h) o

-- ---- receive

-- a ticket that is given is of a slot that none of these is of
abbrev pub Apart : Option Token → List Ticket → Type 0
Apart None ts = Unit {0}
Apart (Some t) ts = none_of t.slot ts ≡ true

module _ (m n : Model) (ts : List Ticket) (o : all_open m.flights ts ≡ true) where
  abbrev Left : Option Token → Type 0
  Left ticket = (all_open n.flights ts ≡ true) × Apart ticket ts

  delivered : (f : Flight) (octets : List ℕ) (smf : Option ℕ) (ticket : Option Token) → Delivered f octets smf ticket m n → Left ticket
  delivered f octets (Some smf) (Some t) d =
      let n = apart_from m.flights t.slot (λ k. ap (λ (x : Option Flight). is_some (held k x)) d.1.free) ts o in
      (same_open _ _ ts d.1.flights (stay_open m.flights t.slot (Some f) ts n o), n)
  delivered f octets (Some smf) None d = absurd d
  delivered f octets None (Some t) d = absurd d
  delivered f octets None None d = (same_open _ _ ts d.0 o, tt)

  pub received_left : (r : Received) (chosen : Option ℕ) (ticket : Option Token) (a : Result Answer ℕ) → Receives m r chosen ticket a n → Left ticket
  received_left r chosen ticket a h = go (received m.core (state m) r) h.does
    where
      go : (q : Result Message ℕ) → ReceiveDoes m r chosen ticket q n → Left ticket
      go (Ok x) d = delivered _ _ _ ticket d.delivered
      go (Err e) d = (same_open _ _ ts d.2.flights o, subst (λ (t : Option Token). Apart t ts) (sym d.1) tt)

pub fresh : (m : Model) (ts : List Ticket) (d : Delivery) → Apart (ticket_in d) ts → IsOpen m d → Fresh m.flights ts d
fresh m ts (Forwarded t) a g = (g, a)
fresh m ts (Returned n) a g = tt

-- ---- calls with a ticket that is open

not_refused : {X : Type 0} (o : Option Flight) (F : Flight → X) (e : ℕ) → is_some o ≡ true → Err e ≡ of_flight o (λ f. Ok (F f)) → ⊥
not_refused None F e s h = false≢true s
not_refused (Some f) F e s h = false≢true (sym (ap is_err h))

ok_same : {X : Type 0} (x y : X) (r : Result X ℕ) → Ok x ≡ r → r ≡ Ok y → x ≡ y
ok_same x y r e f = cc

open_flight : (o : Option Flight) → is_some o ≡ true → (f : Flight) × (o ≡ Some f)
open_flight None s = absurd (false≢true s)
open_flight (Some f) s = (f, refl)

-- a ticket that was taken out of them was open, so the call is carried out, and the others stay open
module _ (m n : Model) (t : Ticket) (ts : List Ticket) (p : Parts m.flights t ts) where
  pub taken_refused : (e : ℕ) → Takes m (token t) (Err e) n → ⊥
  taken_refused e h = not_refused (flight m (token t)) (λ f. tt) e p.opened h.answer

  pub taken_left : (a : Result (Unit {0}) ℕ) → Takes m (token t) a n → all_open n.flights ts ≡ true
  taken_left (Ok x) h = same_open _ _ ts (ap (λ (k : Model). k.flights) h.does) (stay_open m.flights t.slot None ts p.apart p.rest)
  taken_left (Err e) h = same_open _ _ ts h.does.flights p.rest

  pub parked_refused : (e : ℕ) → Parks m (token t) (Err e) n → ⊥
  parked_refused e h = not_refused (flight m (token t)) (λ f. f.number) e p.opened h.answer

  pub parked_store : (a : Result ℕ ℕ) → Parks m (token t) a n → KeepsStore m n
  parked_store (Ok x) h = record {
    contexts = ap (λ (k : Model). k.contexts) h.does;
    floor = ap (λ (k : Model). k.floor) h.does;
    room = λ u k. ap (λ (x : Model). x.room u k) h.does;
  }
  parked_store (Err e) h = record { contexts = h.does.contexts; floor = h.does.floor; room = h.does.room }

  pub parked_left : (a : Result ℕ ℕ) → Parks m (token t) a n → all_open n.flights ts ≡ true
  parked_left (Ok x) h = same_open _ _ ts (ap (λ (k : Model). k.flights) h.does) (stay_open m.flights t.slot _ ts p.apart p.rest)
  parked_left (Err e) h = same_open _ _ ts h.does.flights p.rest

  pub failed_left : (pool output : ℕ) (x : List ℕ) → Fails m pool output (token t) (Ok x) n → all_open n.flights ts ≡ true
  failed_left pool output x h =
      let f = open_flight (flight m (token t)) p.opened in
      same_open _ _ ts (h.does f.0 f.1).flights (stay_open m.flights t.slot None ts p.apart p.rest)

  -- where it is refused, the ticket is held again
  pub failed_kept : (pool output e : ℕ) → Fails m pool output (token t) (Err e) n → all_open n.flights (ts ++ t ∷ []) ≡ true
  failed_kept pool output e h = same_open _ _ (ts ++ t ∷ []) h.does.flights (added m.flights ts t p.rest p.apart p.opened)

-- ---- pick

parked_apart : (number : ℕ) (o : Option Flight) → is_parked number o ≡ true → (n : ℕ) → is_some (held n o) ≡ false
parked_apart number None e n = refl
parked_apart number (Some f) e n =
    let q = and_parts (is_parked_mark f.mark) (eqb f.number number) e in
    ap (λ (b : Bool). is_some (cond (not b && eqb f.number n) (Some f) None)) q.0

picked_open : (number : ℕ) (o : Option Flight) → is_parked number o ≡ true → is_some (held number (marked InHand o)) ≡ true
picked_open number None e = absurd (false≢true e)
picked_open number (Some f) e =
    let q = and_parts (is_parked_mark f.mark) (eqb f.number number) e in
    ap (λ (b : Bool). is_some (cond b (Some (with_mark InHand f)) None)) q.1

module _ (m n : Model) (ts : List Ticket) (o : all_open m.flights ts ≡ true) where
  picked : (number : ℕ) (t : Ticket) → position (is_parked number) m.flights ≡ Some t.slot → t.number ≡ number → n.flights ≡ set m.flights t.slot (marked InHand (at m.flights t.slot)) → all_open n.flights (ts ++ t ∷ []) ≡ true
  picked number t e same is =
      let q = position-Some (is_parked number) m.flights t.slot None e in
      let apart = apart_from m.flights t.slot (parked_apart number (at m.flights t.slot) q.1) ts o in
      let opened : is_open (set m.flights t.slot (marked InHand (at m.flights t.slot))) t ≡ true =
      ap (λ (x : Option Flight). is_some (held t.number x)) (get_or-set_same m.flights t.slot _ None q.0) ∙ ap (λ (k : ℕ). is_some (held k (marked InHand (at m.flights t.slot)))) same ∙ picked_open number (at m.flights t.slot) q.1 in
      same_open _ _ (ts ++ t ∷ []) is (added _ ts t (stay_open m.flights t.slot _ ts apart o) apart opened)

  pub picked_left : (number : ℕ) (t : Ticket) → Picks m number (Ok (token t)) n → all_open n.flights (ts ++ t ∷ []) ≡ true
  picked_left number t h = go (position (is_parked number) m.flights) refl h.answer
    where
      go : (q : Option ℕ) → position (is_parked number) m.flights ≡ q → Ok (token t) ≡ ticket_at number q → all_open n.flights (ts ++ t ∷ []) ≡ true
      go None e a = absurd (false≢true (ap is_err a))
      go (Some k) e a =
          let same : token t ≡ record { number = number; slot = k } = ok_same (token t) _ _ a refl in
          picked number t (e ∙ ap (λ (x : Token). Some x.slot) (sym same)) (ap (λ (x : Token). x.number) same) (ap (λ (x : Model). x.flights) (h.does (token t) refl))

  pub pick_refused : (number : ℕ) (e : ℕ) → Picks m number (Err e) n → all_open n.flights ts ≡ true
  pick_refused number e h = same_open _ _ ts h.does.flights o
