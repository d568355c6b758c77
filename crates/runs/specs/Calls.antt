-- What each call answers and does, as a relation of the states before and after it.
use Rattle.std.specs.Prelude.{◌≡◌, ℕ, ◌+◌, ◌*◌, ◌<◌, Bool, false, cond, ◌&&◌, List, length, is_some, Some, None, Ok, Err, Option, Result, MatchBool, slice_set, ◌==◌, nat_le}
use Rattle.std.specs.List.{position}
use Rattle.std.specs.Option.{option_or}
use Rattle.codes.specs.declared.cause.Cause.TheVariants.{NotForwarded}
use Rattle.codes.specs.declared.refusal.Refusal.TheVariants.{PoolLength, OutputLength, UnknownTicket, NoContext}
use Rattle.directories.specs.Choices.{Serving}
use Rattle.accounts.specs.Receives.{Core, Received, Answer, received, answered, case_on, verdict_on, passing, pool_length}
use Rattle.flights.specs.declared.flight.Flight.{Flight}
use Rattle.flights.specs.declared.flight.Mark.TheVariants.{InHand, Parked}
use Rattle.flights.specs.Slots.{at, is_parked, in_hand}
use Rattle.nas.specs.Returns.{returned, overwritten, return_overhead}
use Rattle.codes.specs.Refusals.{refuse}
use Rattle.nas.specs.Uplinks.{Message}
use Rattle.stores.specs.declared.context.Context.{Context}
use Rattle.stores.specs.Contexts.{lookup}
use Rattle.verdicts.specs.declared.verdict.Verdict.{Verdict}
use Rattle.verdicts.specs.Rulings.{asks_directory}
use Rattle.verdicts.specs.Rules.{ruling}
use Rattle.verdicts.specs.Verdicts.{smf_of, establishes, context_of}
use Rattle.runs.specs.Models.{Model, Token, state, slot_length, slot_octets, closed, remarked}

-- ---- what stays and what changes

-- nothing changed
pub record Kept (m n : Model) : Type 0 where
  pub core : n.core ≡ m.core
  pub next : n.next ≡ m.next
  pub flights : n.flights ≡ m.flights
  pub contexts : n.contexts ≡ m.contexts
  pub floor : n.floor ≡ m.floor
  pub room : (u k : ℕ) → n.room u k ≡ m.room u k
  pub pool : n.pool ≡ m.pool

-- the store has o for session k of UE u, and for all others what it had
abbrev pub Stands : ℕ → ℕ → Option Context → Model → Model → Type 0
Stands u k o m n =
    (v j : ℕ) → lookup n.contexts v j ≡ cond (u == v && k == j) o (lookup m.contexts v j)

-- what a verdict leaves for session k of UE u, where o stood: the context that it establishes; else none, where it orders the release; else o
abbrev pub stood_after : Verdict → ℕ → ℕ → Option Context → Option Context
stood_after v u k o = option_or (context_of v u k) (cond (is_some v.release) None o)

-- ---- receive

-- the directory's choice is right: it was asked where the rules leave it the choice, and then chose an SMF that serves, or none if none serves
abbrev pub RightChoice : Core → List Context → Received → Option ℕ → Message → Type 0
RightChoice core contexts r chosen x =
    MatchBool (asks_directory (ruling (case_on core contexts r x)).outcome)
    (Serving r.is_open (r.serves (verdict_on core contexts r chosen x).used.slice (verdict_on core contexts r chosen x).used.dnn) chosen)
    (chosen ≡ None)

-- the flight of a message of UE u that is forwarded under number n, with or without a context that is put for it
abbrev pub new_flight : ℕ → ℕ → Message → Bool → Flight
new_flight n u x puts = record { number = n; ue = u; session = x.session; length = length x.payload; establishes = puts; mark = InHand }

abbrev pub flight_of : ℕ → ℕ → Message → Verdict → Flight
flight_of n u x v = new_flight n u x (establishes v.decision)

-- the slot, which was free, has the flight and its octets, and nothing else of flights and pool changed
pub record PlacedIn (slot : ℕ) (f : Flight) (octets : List ℕ) (m n : Model) : Type 0 where
  pub within : slot < length m.flights
  pub free : at m.flights slot ≡ None
  pub flights : n.flights ≡ slice_set m.flights slot (Some f)
  pub pool : n.pool ≡ overwritten m.pool (slot_length * slot) octets

-- the payload stands in the slot of the ticket that is given if it is forwarded, and else none is given, and no slot and no octet of the pool changed
abbrev pub Delivered : Flight → List ℕ → Option ℕ → Option Token → Model → Model → Type 0
Delivered f octets (Some smf) (Some t) m n = (t.number ≡ f.number) × PlacedIn t.slot f octets m n
Delivered f octets (Some smf) None m n = ⊥
Delivered f octets None (Some t) m n = ⊥
Delivered f octets None None m n = (n.flights ≡ m.flights) × (n.pool ≡ m.pool)

-- what a receive does that accepts the message x
pub record Accepted (m : Model) (r : Received) (chosen : Option ℕ) (ticket : Option Token) (x : Message) (n : Model) : Type 0 where
  pub choice : RightChoice m.core m.contexts r chosen x
  pub core : n.core ≡ m.core
  pub next : n.next ≡ m.next + 1
  pub contexts : Stands r.ue.number x.session (stood_after (verdict_on m.core m.contexts r chosen x) r.ue.number x.session (lookup m.contexts r.ue.number x.session)) m n
  pub delivered : Delivered (flight_of m.next r.ue.number x (verdict_on m.core m.contexts r chosen x)) x.payload (smf_of (verdict_on m.core m.contexts r chosen x).decision) ticket m n
  pub floor : n.floor ≡ m.floor
  -- a store that has nothing to put or to remove is left alone
  pub room : context_of (verdict_on m.core m.contexts r chosen x) r.ue.number x.session ≡ None → (verdict_on m.core m.contexts r chosen x).release ≡ None → (u k : ℕ) → n.room u k ≡ m.room u k

abbrev pub ReceiveDoes : Model → Received → Option ℕ → Option Token → Result Message ℕ → Model → Type 0
ReceiveDoes m r chosen ticket (Ok x) n = Accepted m r chosen ticket x n
ReceiveDoes m r chosen ticket (Err e) n = (chosen ≡ None) × (ticket ≡ None) × Kept m n

pub record Receives (m : Model) (r : Received) (chosen : Option ℕ) (ticket : Option Token) (a : Result Answer ℕ) (n : Model) : Type 0 where
  pub answer : a ≡ answered m.core (state m) m.contexts r chosen
  pub does : ReceiveDoes m r chosen ticket (received m.core (state m) r) n

-- ---- calls with a ticket

-- x of the flight of a ticket that is open here; refused where it is not
abbrev pub of_flight : {X : Type 0} → Option Flight → (Flight → Result X ℕ) → Result X ℕ
of_flight None x = refuse UnknownTicket
of_flight (Some f) x = x f

-- the flight of a ticket, if the ticket is open here
abbrev pub flight : Model → Token → Option Flight
flight m t = in_hand m.flights t.number t.slot

-- n is what the change makes of m, if the call is carried out
abbrev pub Does : {X : Type 0} → Result X ℕ → (Model → Type 0) → Model → Model → Type 0
Does (Ok x) P m n = P n
Does (Err e) P m n = Kept m n

-- the octets in the slot, where the pool that is handed in has this length
pub record HandsOut (m : Model) (pool : ℕ) (t : Token) (a : Result (List ℕ) ℕ) (n : Model) : Type 0 where
  pub answer : a ≡ passing (pool == pool_length) PoolLength (of_flight (flight m t) (λ f. Ok (slot_octets m.pool t.slot f.length)))
  pub kept : Kept m n

pub record Takes (m : Model) (t : Token) (a : Result (Unit {0}) ℕ) (n : Model) : Type 0 where
  pub answer : a ≡ of_flight (flight m t) (λ f. Ok tt)
  pub does : Does a (λ x. x ≡ closed t.slot m) m n

-- the return of a payload that its SMF did not take
abbrev pub undelivered : Model → Token → Flight → List ℕ
undelivered m t f = returned (slot_octets m.pool t.slot f.length) f.session NotForwarded

-- the context that the flight established is gone, if it stands
abbrev pub withdrawn : Flight → Option Context → Option Context
withdrawn f o = cond f.establishes None o

pub record Undone (m : Model) (slot : ℕ) (f : Flight) (n : Model) : Type 0 where
  pub core : n.core ≡ m.core
  pub next : n.next ≡ m.next
  pub flights : n.flights ≡ slice_set m.flights slot None
  pub contexts : Stands f.ue f.session (withdrawn f (lookup m.contexts f.ue f.session)) m n
  pub floor : n.floor ≡ m.floor
  -- a store that has nothing to remove is left alone
  pub room : (f.establishes && is_some (lookup m.contexts f.ue f.session)) ≡ false → (u k : ℕ) → n.room u k ≡ m.room u k
  pub pool : n.pool ≡ m.pool

pub record Fails (m : Model) (pool output : ℕ) (t : Token) (a : Result (List ℕ) ℕ) (n : Model) : Type 0 where
  pub answer : a ≡ passing (pool == pool_length) PoolLength (of_flight (flight m t) (λ f. passing (nat_le (f.length + return_overhead) output) OutputLength (Ok (undelivered m t f))))
  pub does : Does a (λ x. (f : Flight) → flight m t ≡ Some f → Undone m t.slot f x) m n

pub record Parks (m : Model) (t : Token) (a : Result ℕ ℕ) (n : Model) : Type 0 where
  pub answer : a ≡ of_flight (flight m t) (λ f. Ok f.number)
  pub does : Does a (λ x. x ≡ remarked Parked t.slot m) m n

-- the ticket of this number and slot; refused where there is no such slot
abbrev pub ticket_at : ℕ → Option ℕ → Result Token ℕ
ticket_at number None = refuse UnknownTicket
ticket_at number (Some k) = Ok (record { number = number; slot = k })

pub record Picks (m : Model) (number : ℕ) (a : Result Token ℕ) (n : Model) : Type 0 where
  pub answer : a ≡ ticket_at number (position (is_parked number) m.flights)
  pub does : Does a (λ x. (t : Token) → a ≡ Ok t → x ≡ remarked InHand t.slot m) m n

-- ---- released

-- session k of UE u has no context, and the others have what they had
pub record Released (m : Model) (u k : ℕ) (n : Model) : Type 0 where
  pub core : n.core ≡ m.core
  pub next : n.next ≡ m.next
  pub flights : n.flights ≡ m.flights
  pub contexts : Stands u k None m n
  pub floor : n.floor ≡ m.floor
  pub pool : n.pool ≡ m.pool

pub record Releases (m : Model) (u k : ℕ) (a : Result (Unit {0}) ℕ) (n : Model) : Type 0 where
  pub answer : a ≡ passing (is_some (lookup m.contexts u k)) NoContext (Ok tt)
  pub does : Does a (λ x. Released m u k x) m n
