-- A call that is handed a buffer does what it does to the pool, or was refused for the buffer's length and leaves the pool.
use Rattle.std.proofs.Common.{◌≡◌, ℕ, ◌+◌, Bool, true, false, cond, eqb, nat_le, List, length, Some, Ok, Err, Option, Result, is_err, refl, sym, ap, subst, ◌∙◌}
use Rattle.std.proofs.lemmas.Bool.{eqb-true, eqb-false, false≢true}
use Rattle.codes.specs.declared.refusal.Refusal.TheVariants.{RecordBounds, PoolLength, OutputLength}
use Rattle.codes.specs.Refusals.{refusal_number}
use Rattle.records.specs.Records.{record_fits}
use Rattle.accounts.specs.Receives.{Core, State, Received, Answer, received, admitted, passing, pool_length}
use Rattle.flights.specs.declared.flight.Flight.{Flight}
use Rattle.nas.specs.Uplinks.{Message, read, then}
use Rattle.nas.specs.Returns.{return_overhead}
use Rattle.runs.specs.Models.{Model, Token, state, slot_octets, with_pool}
use Rattle.runs.specs.Entries.{receive, payload, failed}
use Rattle.runs.specs.Calls.{Kept, ReceiveDoes, Receives, HandsOut, Fails, Undone, Does, of_flight, flight, undelivered}
use Rattle.runs.specs.Runs.{Step, IsHanded, pool_after}
use Rattle.runs.proofs.Tickets.{passed, opened_flight}

-- a buffer of another length is refused before anything is asked
short : (core : Core) (s : State) (r : Received) → eqb r.pool pool_length ≡ false → (e : ℕ) × (received core s r ≡ Err e)
short core s r h = go (record_fits (length core.names) r.ue) (eqb r.pool pool_length) (then (read r.octets) (admitted s r)) h
  where
    go : (b c : Bool) (q : Result Message ℕ) → c ≡ false → (e : ℕ) × (passing b RecordBounds (passing c PoolLength q) ≡ Err e)
    go false c q z = (refusal_number RecordBounds, refl)
    go true c q z = (refusal_number PoolLength, ap (λ (d : Bool). passing {X = Message} d PoolLength q) z)

-- ---- with another pool

-- nothing changed, whichever the pool is
kept_with : (m n : Model) (p : List ℕ) → Kept m n → Kept (with_pool p m) (with_pool p n)
kept_with m n p k = record { core = k.core; next = k.next; flights = k.flights; contexts = k.contexts; floor = k.floor; room = k.room; pool = refl }

-- the pool afterwards, by the length of the buffer
after_right : (p handed left : List ℕ) → eqb (length handed) pool_length ≡ true → pool_after p handed left ≡ left
after_right p handed left e = ap (λ (b : Bool). cond b left p) e

after_short : (p handed left : List ℕ) → eqb (length handed) pool_length ≡ false → pool_after p handed left ≡ p
after_short p handed left e = ap (λ (b : Bool). cond b left p) e

-- a check that is not passed answers the same, whatever it guards
shut : {X : Type 0} (b : Bool) (x y : Result X ℕ) → b ≡ false → passing b PoolLength x ≡ passing b PoolLength y
shut true x y e = absurd (false≢true (sym e))
shut false x y e = refl

-- ---- the calls

pub receives : (m n : Model) (r : Received) (chosen : Option ℕ) (ticket : Option Token) (a : Result Answer ℕ) (p : List ℕ) → r.pool ≡ length m.pool → IsHanded p m.pool → Receives m r chosen ticket a n → Step (with_pool p m) (receive r chosen ticket a) (with_pool (pool_after p m.pool n.pool) n)
receives m n r chosen ticket a p size handed h = go (eqb (length m.pool) pool_length) refl
  where
    Goal : List ℕ → List ℕ → Type 0
    Goal before after = Step (with_pool before m) (receive r chosen ticket a) (with_pool after n)

    refused : eqb r.pool pool_length ≡ false → Goal p p
    refused e =
        let x = short m.core (state m) r e in
        let d = subst (λ (q : Result Message ℕ). ReceiveDoes m r chosen ticket q n) x.1 h.does in (
          (λ z. absurd (eqb-false r.pool pool_length e z)),
          record {
            answer = h.answer;
            does = subst (λ (q : Result Message ℕ). ReceiveDoes (with_pool p m) r chosen ticket q (with_pool p n)) (sym x.1) (d.0, d.1, kept_with m n p d.2);
          },
        )

    go : (b : Bool) → eqb (length m.pool) pool_length ≡ b → Goal p (pool_after p m.pool n.pool)
    go true e =
        subst (λ (q : List ℕ). Goal p q) (sym (after_right p m.pool n.pool e))
        (subst (λ (q : List ℕ). Goal q n.pool) (sym (handed (eqb-true (length m.pool) pool_length e)))
        ((λ z. sym size ∙ z), h))
    go false e =
        subst (λ (q : List ℕ). Goal p q) (sym (after_short p m.pool n.pool e))
        (refused (ap (λ (k : ℕ). eqb k pool_length) size ∙ e))

pub hands_out : (m : Model) (t : Token) (a : Result (List ℕ) ℕ) (p : List ℕ) → IsHanded p m.pool → HandsOut m (length m.pool) t a m → Step (with_pool p m) (payload (length m.pool) t a) (with_pool p m)
hands_out m t a p handed h = record { answer = go (eqb (length m.pool) pool_length) refl; kept = kept_with m m p h.kept }
  where
    Goal : List ℕ → Type 0
    Goal q = a ≡ passing (eqb (length m.pool) pool_length) PoolLength (of_flight (flight m t) (λ f. Ok (slot_octets q t.slot f.length)))

    go : (b : Bool) → eqb (length m.pool) pool_length ≡ b → Goal p
    go true e = subst Goal (sym (handed (eqb-true (length m.pool) pool_length e))) h.answer
    go false e = h.answer ∙ shut _ _ _ e

-- what is refused for the pool changes nothing, whichever the pool is
refused_does : {X : Type 0} (P Q : Model → Type 0) (m n : Model) (p : List ℕ) (b : Bool) (q a : Result X ℕ) → b ≡ false → a ≡ passing b PoolLength q → Does a P m n → Does a Q (with_pool p m) (with_pool p n)
refused_does P Q m n p true q a e h d = absurd (false≢true (sym e))
refused_does P Q m n p false q (Ok x) e h d = absurd (false≢true (ap is_err h))
refused_does P Q m n p false q (Err x) e h d = kept_with m n p d

-- a payload that failed leaves the pool as it was
pool_stays : (m n : Model) (b : Bool) (output : ℕ) (t : Token) (a : Result (List ℕ) ℕ) → a ≡ passing b PoolLength (of_flight (flight m t) (λ f. passing (nat_le (f.length + return_overhead) output) OutputLength (Ok (undelivered m t f)))) → Does a (λ x. (f : Flight) → flight m t ≡ Some f → Undone m t.slot f x) m n → n.pool ≡ m.pool
pool_stays m n b output t (Ok x) e d =
    let o = opened_flight (flight m t) (λ f. passing (nat_le (f.length + return_overhead) output) OutputLength (Ok (undelivered m t f))) x (passed b PoolLength _ x e) in
    (d o.0 o.1).pool
pool_stays m n b output t (Err x) e d = d.pool

pub fails : (m n : Model) (output : ℕ) (t : Token) (a : Result (List ℕ) ℕ) (p : List ℕ) → IsHanded p m.pool → Fails m (length m.pool) output t a n → Step (with_pool p m) (failed (length m.pool) output t a) (with_pool p n)
fails m n output t a p handed h = go (eqb (length m.pool) pool_length) refl
  where
    Goal : List ℕ → List ℕ → Type 0
    Goal before after = Step (with_pool before m) (failed (length m.pool) output t a) (with_pool after n)

    go : (b : Bool) → eqb (length m.pool) pool_length ≡ b → Goal p p
    go true e =
        subst (λ (q : List ℕ). Goal q q) (sym (handed (eqb-true (length m.pool) pool_length e)))
        (subst (λ (q : List ℕ). Goal m.pool q) (pool_stays m n (eqb (length m.pool) pool_length) output t a h.answer h.does) h)
    go false e = record {
      answer = h.answer ∙ shut _ _ _ e;
      does = refused_does (λ x. (f : Flight) → flight m t ≡ Some f → Undone m t.slot f x) (λ x. (f : Flight) → flight m t ≡ Some f → Undone (with_pool p m) t.slot f x) m n p _ _ a e h.answer h.does;
    }
