-- What stays true of a router and the account from call to call.
use Rattle.std.proofs.Common.{◌≡◌, ℕ, zero, suc, ◌+◌, ◌<◌, ◌≤◌, Bool, true, false, cond, not, ◌&&◌, eqb, nat_le, ◌⊎◌, List, [], ◌∷◌, length, set, replicate, Some, None, Ok, Err, Option, Result, is_some, sym, refl, ap, ◌∙◌, subst, inl, inr, arith, length-set}
use Rattle.std.specs.List.{AllByRecursion, filter, list_any, count_by}
use Rattle.std.specs.Option.{option_or}
use Rattle.std.proofs.lemmas.Bool.{false≢true, true≢false, and_from, and_parts, eqb-true, eq-eqb, ne_eqb}
use Rattle.std.proofs.lemmas.Option.{none-some, same_Some}
use Rattle.std.proofs.lemmas.List.{get_or-set_same}
use Rattle.std.proofs.lemmas.List.Folds.{list_any_at}
use Rattle.accounts.specs.Receives.{Core, Opening, Received, Answer, verdict_on, passing, pool_length}
use Rattle.accounts.specs.Accounts.{Account, Payload, Numbered, contexts_in, without, left, entered, counted, counted_at, with_verdict, with_message, in_flight}
use Rattle.codes.specs.declared.refusal.Refusal.TheVariants.{PoolLength, OutputLength}
use Rattle.flights.specs.declared.flight.Flight.{Flight}
use Rattle.flights.specs.declared.flight.Mark.{Mark}
use Rattle.flights.specs.declared.flight.Mark.TheVariants.{InHand, Parked}
use Rattle.flights.specs.Slots.{at, is_for}
use Rattle.nas.specs.Uplinks.{Message, read}
use Rattle.stores.specs.declared.context.Context.{Context}
use Rattle.stores.specs.Contexts.{lookup, is_of, Once}
use Rattle.stores.proofs.Counts.{count_cons}
use Rattle.verdicts.specs.declared.verdict.Verdict.{Verdict}
use Rattle.verdicts.specs.Verdicts.{smf_of, context_of}
use Rattle.runs.specs.Models.{Model, Token, slot_octets, closed, remarked}
use Rattle.runs.specs.Entries.{Entry, receive, payload, taken, failed, park, pick, released, account_of}
use Rattle.runs.specs.Calls.{Kept, Stands, stood_after, flight_of, PlacedIn, Delivered, flight, Undone, undelivered, Released}
use Rattle.runs.specs.Laws.{payload_of, Carries, InFlight, Fate}
use Rattle.runs.specs.Laws.Fate.{was_taken, was_returned, flies}
use Rattle.runs.specs.Runs.{Opened, IsPool, Lent, Step}
use Rattle.runs.proofs.Judging.{verdict_alike, of_pair, not_established}
use Rattle.runs.proofs.Receiving.{Done, done, undone}
use Rattle.runs.proofs.Lists.{all_weaker, all_both, all_filter, filter_alike, filter_whole}
use Rattle.runs.proofs.Members.{all_in, found_in, passes_any, one_passes}
use Rattle.runs.proofs.Tickets.{passed, opened_flight, held_is}
use Rattle.runs.proofs.Slots.{Flights, within, written, slot_of, count_written, octets_here, octets_beside}
use Rattle.runs.proofs.Leaving.{bare, same_pair, pair_of, pair_from, lookup_left, lookup_after, once_left, once_entered, all_left, all_entered}
use Rattle.runs.proofs.Fates.{Like, Remarked, unmarked, one_remarked, fate_remarked, like_itself, freed_back, freed_other, fates_freed, fate_filled, Falling, found_own, low_counted, falling_counted, found_counted, count_counted}

-- how a flight and a context of the account belong together
pub record Tied (f : Flight) (x : Numbered) : Type 0 where
  pub own : x.number ≡ f.number → (f.establishes ≡ true) × (x.context.ue ≡ f.ue) × (x.context.session ≡ f.session)
  pub back : f.establishes ≡ true → x.context.ue ≡ f.ue → x.context.session ≡ f.session → x.number ≡ f.number

pub record Invariant (o : Opening) (a : Account) (m : Model) : Type 0 where
  pub core : m.core ≡ o.core
  pub next : m.next ≡ a.next
  pub slots : length m.flights ≡ 16
  pub contexts : (u k : ℕ) → lookup m.contexts u k ≡ lookup (contexts_in a) u k
  -- each session of each UE has at most one context
  pub once : Once (contexts_in a)
  pub fates : AllByRecursion (Fate m.flights) a.payloads
  pub low : AllByRecursion (λ p. p.number < a.next) a.payloads
  pub falling : Falling a.payloads
  pub flights : (k : ℕ) (f : Flight) → at m.flights k ≡ Some f → (p : Payload) × (payload_of a f.number ≡ Some p) × Carries m k f p
  pub apart : (j k : ℕ) (f g : Flight) → at m.flights j ≡ Some f → at m.flights k ≡ Some g → f.number ≡ g.number → j ≡ k
  -- there are as many flights as payloads in flight
  pub count : count_by is_some m.flights ≡ count_by in_flight a.payloads
  pub short : (k : ℕ) (f : Flight) → at m.flights k ≡ Some f → f.length ≤ 2048
  pub tied : (k : ℕ) (f : Flight) → at m.flights k ≡ Some f → AllByRecursion (Tied f) a.contexts
  pub stood : AllByRecursion (λ x. x.number < a.next) a.contexts

-- ---- flights and contexts

-- a flight of the same pair and number is tied alike
tied_like : (f g : Flight) (x : Numbered) → Like f g → Tied g x → Tied f x
tied_like f g x l t =
    record {
      own = λ e. let w = t.own (e ∙ l.number) in (l.establishes ∙ w.0, w.1 ∙ sym l.ue, w.2 ∙ sym l.session);
      back = λ e u k. t.back (sym l.establishes ∙ e) (u ∙ l.ue) (k ∙ l.session) ∙ sym l.number;
    }

carries_like : (m n : Model) (k : ℕ) (f g : Flight) (p : Payload) → Like f g → slot_octets n.pool k f.length ≡ slot_octets m.pool k g.length → Carries m k g p → Carries n k f p
carries_like m n k f g p l e c =
    record {
      number = c.number ∙ sym l.number;
      ue = c.ue ∙ sym l.ue;
      session = c.session ∙ sym l.session;
      in_flight = c.in_flight;
      octets = e ∙ c.octets;
    }

same_tests : (p q : Bool) → (p ≡ true → q ≡ true) → (q ≡ true → p ≡ true) → p ≡ q
same_tests true q f g = sym (f refl)
same_tests false true f g = g refl
same_tests false false f g = refl

-- what is filtered out by a flight's number is the context that it established
by_number : (f : Flight) (n : ℕ) → f.number ≡ n → (xs : List Numbered) → AllByRecursion (Tied f) xs → filter (λ x. not (eqb x.number n)) xs ≡ left f.establishes f.ue f.session xs
by_number f n e xs h = go f.establishes refl
  where
    numbered : (x : Numbered) → Tied f x → f.establishes ≡ true → eqb x.number n ≡ is_of f.ue f.session x.context
    numbered x t b =
        same_tests (eqb x.number n) (is_of f.ue f.session x.context)
        (λ z. let w = t.own (eqb-true x.number n z ∙ sym e) in pair_from x.context.ue x.context.session f.ue f.session w.1 w.2)
        (λ z. let w = pair_of x.context.ue x.context.session f.ue f.session z in eq-eqb x.number n (t.back b w.0 w.1 ∙ e))

    unnumbered : (x : Numbered) → Tied f x → f.establishes ≡ false → not (eqb x.number n) ≡ true
    unnumbered x t b =
        ap (λ (z : Bool). not z) (ne_eqb x.number n (λ z. false≢true (sym b ∙ (t.own (z ∙ sym e)).0)))

    go : (b : Bool) → f.establishes ≡ b → filter (λ x. not (eqb x.number n)) xs ≡ left b f.ue f.session xs
    go true b = filter_alike (λ x. not (eqb x.number n)) (λ x. not (is_of f.ue f.session x.context)) xs (all_weaker (Tied f) (λ x. not (eqb x.number n) ≡ not (is_of f.ue f.session x.context)) (λ x t. ap (λ (z : Bool). not z) (numbered x t b)) xs h)
    go false b = filter_whole (λ x. not (eqb x.number n)) xs (all_weaker (Tied f) (λ x. not (eqb x.number n) ≡ true) (λ x t. unnumbered x t b) xs h)

-- ---- a router that was just opened

none_at : (n k : ℕ) → at (replicate n None) k ≡ None
none_at zero k = refl
none_at (suc n) zero = refl
none_at (suc n) (suc k) = none_at n k

pub begins : (o : Opening) (m : Model) → Opened o m → Invariant o (account_of o []) m
begins o m h =
    record {
      core = h.core;
      next = h.next;
      slots = ap (λ (l : Flights). length l) h.flights;
      contexts = λ u k. ap (λ (l : List Context). lookup l u k) h.contexts;
      once = tt;
      fates = tt;
      low = tt;
      falling = tt;
      flights = λ k f e. absurd (empty k f e);
      apart = λ j k f g e. absurd (empty j f e);
      count = ap (λ (l : Flights). count_by is_some l) h.flights;
      short = λ k f e. absurd (empty k f e);
      tied = λ k f e. tt;
      stood = tt;
    }
  where
    empty : (k : ℕ) (f : Flight) → at m.flights k ≡ Some f → ⊥
    empty k f e = none-some f (sym (none_at 16 k) ∙ sym (ap (λ (l : Flights). at l k) h.flights) ∙ e)

-- ---- calls that leave the flights, but for their marks

-- the slots of flights have the octets that they had
abbrev SameOctets : Model → Model → Type 0
SameOctets m n =
    (k : ℕ) (f : Flight) → at m.flights k ≡ Some f → slot_octets n.pool k f.length ≡ slot_octets m.pool k f.length

same_pool : (m n : Model) → n.pool ≡ m.pool → SameOctets m n
same_pool m n h k f e = ap (λ (l : List ℕ). slot_octets l k f.length) h

-- other contexts in the account
abbrev with_contexts : Account → List Numbered → Account
with_contexts a xs = record { next = a.next; payloads = a.payloads; contexts = xs }

module _ (o : Opening) (a : Account) (m : Model) (i : Invariant o a m) where
  -- what is asked of the account's contexts after a call
  record Contexts (n : Model) (xs : List Numbered) : Type 0 where
    alike : (u k : ℕ) → lookup n.contexts u k ≡ lookup (bare xs) u k
    once : Once (bare xs)
    stood : AllByRecursion (λ x. x.number < a.next) xs
    tied : (k : ℕ) (f : Flight) → at m.flights k ≡ Some f → AllByRecursion (Tied f) xs

  -- they are as before
  same_contexts : (n : Model) → ((u k : ℕ) → lookup n.contexts u k ≡ lookup m.contexts u k) → Contexts n a.contexts
  same_contexts n h = record { alike = λ u k. h u k ∙ i.contexts u k; once = i.once; stood = i.stood; tied = i.tied }

  -- one leaves, if any
  less_contexts : (n : Model) (b : Bool) (u k : ℕ) → Stands u k (cond b None (lookup m.contexts u k)) m n → Contexts n (left b u k a.contexts)
  less_contexts n b u k h =
      record {
        alike = λ v j. h v j ∙ (λ y. cond (same_pair u k v j) (cond b None (i.contexts u k y)) (i.contexts v j y)) ∙ sym (lookup_left b u k a.contexts v j);
        once = once_left b u k a.contexts i.once;
        stood = all_left (λ x. x.number < a.next) b u k a.contexts i.stood;
        tied = λ j f e. all_left (Tied f) b u k a.contexts (i.tied j f e);
      }

  stays : (n : Model) (xs : List Numbered) → n.core ≡ m.core → n.next ≡ m.next → Remarked m.flights n.flights → SameOctets m n → Contexts n xs → Invariant o (with_contexts a xs) n
  stays n xs core next flights octets c =
      record {
        core = core ∙ i.core;
        next = next ∙ i.next;
        slots = flights.size ∙ i.slots;
        contexts = c.alike;
        once = c.once;
        fates = all_weaker (Fate m.flights) (Fate n.flights) (fate_remarked m.flights n.flights flights) a.payloads i.fates;
        low = i.low;
        falling = i.falling;
        flights = λ k f e.
            let b = flights.back k f e in
            let x = i.flights k b.0 b.1 in
            (x.0, ap (payload_of a) b.2.number ∙ x.1, carries_like m n k f b.0 x.0 b.2 (ap (slot_octets n.pool k) b.2.length ∙ octets k b.0 b.1) x.2);
        apart = λ j k f g e d z.
            let b = flights.back j f e in
            let c = flights.back k g d in
            i.apart j k b.0 c.0 b.1 c.1 (sym b.2.number ∙ z ∙ c.2.number);
        count = flights.count ∙ i.count;
        short = λ k f e.
            let b = flights.back k f e in
            subst (λ (l : ℕ). l ≤ 2048) (sym b.2.length) (i.short k b.0 b.1);
        tied = λ k f e.
            let b = flights.back k f e in
            all_weaker (Tied b.0) (Tied f) (λ x. tied_like f b.0 x b.2) xs (c.tied k b.0 b.1);
        stood = c.stood;
      }

-- the pool was lent
pub lends : (o : Opening) (a : Account) (m n : Model) → Lent m n → Invariant o a m → Invariant o a n
lends o a m n h i = stays o a m i n a.contexts h.core h.next (unmarked m.flights n.flights h.flights) h.octets (same_contexts o a m i n (λ u k. ap (λ (l : List Context). lookup l u k) h.contexts))

pub kept : (o : Opening) (a : Account) (m n : Model) → Kept m n → Invariant o a m → Invariant o a n
kept o a m n h =
    lends o a m n (record { core = h.core; next = h.next; flights = h.flights; contexts = h.contexts; floor = h.floor; room = h.room; octets = same_pool m n h.pool })

-- the mark of a flight is another
remarks : (o : Opening) (a : Account) (m n : Model) (mark : Mark) (k : ℕ) → n ≡ remarked mark k m → Invariant o a m → Invariant o a n
remarks o a m n mark k e i =
    subst (Invariant o a) (sym e) (stays o a m i (remarked mark k m) a.contexts refl refl (one_remarked mark m.flights k) (λ j f b. refl) (same_contexts o a m i (remarked mark k m) (λ u j. refl)))

-- a context was released
releases : (o : Opening) (a : Account) (m n : Model) (u k : ℕ) → Released m u k n → Invariant o a m → Invariant o (with_contexts a (without u k a.contexts)) n
releases o a m n u k h i =
    stays o a m i n (without u k a.contexts) h.core h.next (unmarked m.flights n.flights h.flights) (same_pool m n h.pool) (less_contexts o a m i n true u k h.contexts)

-- ---- calls that free a slot

-- the payload of number n, taken and returned so many times more, and other contexts
abbrev with_count : Account → ℕ → ℕ → ℕ → List Numbered → Account
with_count a n t r xs = record { next = a.next; payloads = counted_at n t r a.payloads; contexts = xs }

module _ (o : Opening) (a : Account) (m : Model) (i : Invariant o a m) (k : ℕ) (f : Flight) (here : at m.flights k ≡ Some f) where
  abbrev freed : Flights
  freed = set m.flights k None

  frees : (n : Model) (t r : ℕ) (xs : List Numbered) → t + r ≡ 1 → n.core ≡ m.core → n.next ≡ m.next → n.flights ≡ freed → n.pool ≡ m.pool → ((p : Payload) → p.taken ≡ 0 → p.returned ≡ 0 → (InFlight freed p.number → ⊥) → Fate freed (counted t r p)) → Contexts o a m i n xs → Invariant o (with_count a f.number t r xs) n
  frees n t r xs one core next flights pool ends c =
      record {
        core = core ∙ i.core;
        next = next ∙ i.next;
        slots = ap (λ (l : Flights). length l) flights ∙ length-set m.flights k None ∙ i.slots;
        contexts = c.alike;
        once = c.once;
        fates = subst (λ (l : Flights). AllByRecursion (Fate l) (counted_at f.number t r a.payloads)) (sym flights) (fates_freed m.flights k f here i.apart f.number t r refl ends a.payloads i.fates);
        low = low_counted f.number t r a.next a.payloads i.low;
        falling = falling_counted f.number t r a.payloads i.falling;
        flights = λ j g e.
            let x = i.flights j g (before j g e) in
            (x.0, found_counted f.number t r g.number (other j g e) a.payloads ∙ x.1, carries_like m n j g g x.0 (like_itself g) (same_pool m n pool j g (before j g e)) x.2);
        apart = λ j l g h e d. i.apart j l g h (before j g e) (before l h d);
        count = ap (λ (l : Flights). count_by is_some l) flights ∙ one_less;
        short = λ j g e. i.short j g (before j g e);
        tied = λ j g e. c.tied j g (before j g e);
        stood = c.stood;
      }
    where
      one_less : count_by is_some freed ≡ count_by in_flight (counted_at f.number t r a.payloads)
      one_less =
          let w = i.flights k f here in
          let c = count_written m.flights k None (within m.flights k f here) in
          let s : ◌≡◌ {A = ℕ} (cond (is_some (at m.flights k)) 1 0) 1 = ap (λ (q : Option Flight). cond {A = ℕ} (is_some q) 1 0) here in
          let d = count_counted f.number t r one a.payloads i.falling w.0 w.1 w.2.in_flight in
          let e = i.count in
          omega (arith, c, s, d, e)

      at_freed : (j : ℕ) (g : Flight) → at n.flights j ≡ Some g → at freed j ≡ Some g
      at_freed j g e = subst (λ (l : Flights). at l j ≡ Some g) flights e

      before : (j : ℕ) (g : Flight) → at n.flights j ≡ Some g → at m.flights j ≡ Some g
      before j g e = (freed_back m.flights k f here i.apart j g (at_freed j g e)).1

      other : (j : ℕ) (g : Flight) → at n.flights j ≡ Some g → g.number ≡ f.number → ⊥
      other j g e = freed_other m.flights k f here i.apart j g (at_freed j g e)

takes : (o : Opening) (a : Account) (m n : Model) (k number : ℕ) (f : Flight) → at m.flights k ≡ Some f → f.number ≡ number → n ≡ closed k m → Invariant o a m → Invariant o (with_count a number 1 0 a.contexts) n
takes o a m n k number f here e h i =
    subst (λ (x : Model). Invariant o (with_count a number 1 0 a.contexts) x) (sym h)
    (subst (λ (j : ℕ). Invariant o (with_count a j 1 0 a.contexts) (closed k m)) e
    (frees o a m i k f here (closed k m) 1 0 a.contexts refl refl refl refl refl (λ p u v nay. was_taken (omega (arith, u)) (omega (arith, v)) nay) (same_contexts o a m i (closed k m) (λ u j. refl))))

fails : (o : Opening) (a : Account) (m n : Model) (k number : ℕ) (f : Flight) → at m.flights k ≡ Some f → f.number ≡ number → Undone m k f n → Invariant o a m → Invariant o (with_count a number 0 1 (filter (λ x. not (eqb x.number number)) a.contexts)) n
fails o a m n k number f here e h i =
    subst (λ (xs : List Numbered). Invariant o (with_count a number 0 1 xs) n) (sym (by_number f number e a.contexts (i.tied k f here)))
    (subst (λ (j : ℕ). Invariant o (with_count a j 0 1 (left f.establishes f.ue f.session a.contexts)) n) e
    (frees o a m i k f here n 0 1 (left f.establishes f.ue f.session a.contexts) refl h.core h.next h.flights h.pool (λ p u v nay. was_returned (omega (arith, u)) (omega (arith, v)) nay) (less_contexts o a m i n f.establishes f.ue f.session h.contexts)))

-- ---- a receive that was accepted

module _ (o : Opening) (a : Account) (m : Model) (i : Invariant o a m) (n : Model) (u : ℕ) (x : Message) (v : Verdict) (core : n.core ≡ m.core) (next : n.next ≡ m.next + 1)
    (contexts : Stands u x.session (stood_after v u x.session (lookup m.contexts u x.session)) m n) (unflown : list_any (is_for u x.session) m.flights ≡ false) where
  -- what the account's contexts are then
  abbrev established : Option Context
  established = context_of v u x.session

  abbrev remaining : List Numbered
  remaining = left (is_some v.release) u x.session a.contexts

  abbrev all_contexts : List Numbered
  all_contexts = entered a.next established remaining

  -- the payload, returned so many times
  abbrev new_payload : ℕ → Payload
  new_payload r = record { number = a.next; ue = u; session = x.session; octets = x.payload; taken = 0; returned = r }

  abbrev with_new : ℕ → Account
  with_new r = record { next = a.next + 1; payloads = new_payload r ∷ a.payloads; contexts = all_contexts }

  own_pair : (c : Context) → established ≡ Some c → (c.ue ≡ u) × (c.session ≡ x.session)
  own_pair c e = let p = of_pair v u x.session c e in (p.0, p.1)

  alike_then : (w j : ℕ) → lookup n.contexts w j ≡ lookup (bare all_contexts) w j
  alike_then w j =
      contexts w j
      ∙ (λ y. cond (same_pair u x.session w j) (option_or established (cond (is_some v.release) None (i.contexts u x.session y))) (i.contexts w j y))
      ∙ sym (lookup_after a.next established (is_some v.release) a.contexts u x.session own_pair w j)

  once_then : Once (bare all_contexts)
  once_then = once_entered a.next established remaining (once_left (is_some v.release) u x.session a.contexts i.once)

  remaining_stood : AllByRecursion (λ y. y.number < a.next) remaining
  remaining_stood = all_left (λ y. y.number < a.next) (is_some v.release) u x.session a.contexts i.stood

  stood_then : AllByRecursion (λ y. y.number < a.next + 1) all_contexts
  stood_then =
      all_entered (λ y. y.number < a.next + 1) a.next established remaining (λ c e. omega arith)
      (all_weaker (λ y. y.number < a.next) (λ y. y.number < a.next + 1) (λ y l. omega (arith, l)) remaining remaining_stood)

  low_then : (r : ℕ) → AllByRecursion (λ p. p.number < a.next + 1) (new_payload r ∷ a.payloads)
  low_then r = (omega arith, all_weaker (λ p. p.number < a.next) (λ p. p.number < a.next + 1) (λ p l. omega (arith, l)) a.payloads i.low)

  -- the number is a new one
  lower : (k : ℕ) (f : Flight) → at m.flights k ≡ Some f → f.number < a.next
  lower k f e =
      let w = i.flights k f e in
      let l = all_in (λ p. p.number < a.next) a.payloads w.0 i.low (found_in (λ p. eqb p.number f.number) a.payloads w.0 w.1).1 in
      subst (λ (j : ℕ). j < a.next) w.2.number l

  found_then : (r j : ℕ) → j < a.next → payload_of (with_new r) j ≡ payload_of a j
  found_then r j l = ap (λ (b : Bool). cond b (Some (new_payload r)) (payload_of a j)) (ne_eqb a.next j (λ e. omega (arith, e, l)))

  found_new : (r j : ℕ) → a.next ≡ j → payload_of (with_new r) j ≡ Some (new_payload r)
  found_new r j e = ap (λ (b : Bool). cond b (Some (new_payload r)) (payload_of a j)) (eq-eqb a.next j e)

  -- no flight is of the same session of the same UE
  other_pair : (k : ℕ) (f : Flight) → at m.flights k ≡ Some f → f.ue ≡ u → f.session ≡ x.session → ⊥
  other_pair k f e p q =
      true≢false
      (sym (list_any_at (is_for u x.session) m.flights k None (within m.flights k f e) (ap (is_for u x.session) e ∙ pair_from f.ue f.session u x.session p q))
      ∙ unflown)

  tied_before : (k : ℕ) (f : Flight) → at m.flights k ≡ Some f → AllByRecursion (Tied f) all_contexts
  tied_before k f e =
      all_entered (Tied f) a.next established remaining new
      (all_left (Tied f) (is_some v.release) u x.session a.contexts (i.tied k f e))
    where
      new : (c : Context) → established ≡ Some c → Tied f (record { number = a.next; context = c })
      new c z =
          let w = own_pair c z in
          record {
            own = λ q. let l = lower k f e in absurd (omega (arith, q, l));
            back = λ b p q. absurd (other_pair k f e (sym p ∙ w.0) (sym q ∙ w.1));
          }

  -- the payload went back
  returns : n.flights ≡ m.flights → n.pool ≡ m.pool → Invariant o (with_new 1) n
  returns flights pool =
      record {
        core = core ∙ i.core;
        next = next ∙ ap (λ (j : ℕ). j + 1) i.next;
        slots = ap (λ (l : Flights). length l) flights ∙ i.slots;
        contexts = alike_then;
        once = once_then;
        fates = subst (λ (l : Flights). AllByRecursion (Fate l) (new_payload 1 ∷ a.payloads)) (sym flights) (was_returned refl refl absent, i.fates);
        low = low_then 1;
        falling = (i.low, i.falling);
        flights = λ k f e.
            let w = i.flights k f (before k f e) in
            (w.0, found_then 1 f.number (lower k f (before k f e)) ∙ w.1, carries_like m n k f f w.0 (like_itself f) (same_pool m n pool k f (before k f e)) w.2);
        apart = λ j k f g e d. i.apart j k f g (before j f e) (before k g d);
        count = let e = ap (λ (l : Flights). count_by is_some l) flights in let c = i.count in let d = count_cons in_flight (new_payload 1) a.payloads in omega (arith, e, c, d);
        short = λ k f e. i.short k f (before k f e);
        tied = λ k f e. tied_before k f (before k f e);
        stood = stood_then;
      }
    where
      before : (k : ℕ) (f : Flight) → at n.flights k ≡ Some f → at m.flights k ≡ Some f
      before k f e = subst (λ (l : Flights). at l k ≡ Some f) flights e

      absent : InFlight m.flights a.next → ⊥
      absent q = let l = lower q.0 q.1 q.2 in let e = q.3 in omega (arith, l, e)

  -- the flight of the payload
  abbrev new_flight : Flight
  new_flight = flight_of m.next u x v

  tied_new : AllByRecursion (Tied new_flight) all_contexts
  tied_new = go established refl
    where
      older : (y : Numbered) → y.number < a.next → y.number ≡ m.next → ⊥
      older y l e = let z = i.next in omega (arith, l, e, z)

      go : (c : Option Context) → established ≡ c → AllByRecursion (Tied new_flight) (entered a.next c remaining)
      go None e =
          all_weaker (λ y. y.number < a.next) (Tied new_flight)
          (λ y l. record { own = λ q. absurd (older y l q); back = λ b p q. absurd (false≢true (sym (not_established v u x.session e) ∙ b)) })
          remaining remaining_stood
      go (Some c) e =
          let w = of_pair v u x.session c e in (
            record { own = λ q. (w.3, w.0, w.1); back = λ b p q. sym i.next },
            all_filter (λ y. y.number < a.next) (Tied new_flight) (λ y. not (is_of c.ue c.session y.context))
                (λ y t l. record {
                  own = λ q. absurd (older y l q);
                  back = λ b p q. absurd (false≢true (sym (ap (λ (z : Bool). not z) (pair_from y.context.ue y.context.session c.ue c.session (p ∙ sym w.0) (q ∙ sym w.1))) ∙ t));
                })
                remaining remaining_stood,
          )

  -- the payload was put in a slot
  places : (slot : ℕ) → PlacedIn slot new_flight x.payload m n → length m.pool ≡ 32768 → length x.payload ≤ 2048 → Invariant o (with_new 0) n
  places slot h pool fits =
      record {
        core = core ∙ i.core;
        next = next ∙ ap (λ (j : ℕ). j + 1) i.next;
        slots = ap (λ (l : Flights). length l) h.flights ∙ length-set m.flights slot (Some new_flight) ∙ i.slots;
        contexts = alike_then;
        once = once_then;
        fates = subst (λ (l : Flights). AllByRecursion (Fate l) (new_payload 0 ∷ a.payloads)) (sym h.flights) (flies refl refl (slot, new_flight, here, i.next), older_fates);
        low = low_then 0;
        falling = (i.low, i.falling);
        flights = λ k g e. flights_then k g (parts k g e);
        apart = λ j k f g e d z. apart_then j k f g z (parts j f e) (parts k g d);
        count = ap (λ (l : Flights). count_by is_some l) h.flights ∙ one_more;
        short = λ k g e. short_then k g (parts k g e);
        tied = λ k g e. tied_then k g (parts k g e);
        stood = stood_then;
      }
    where
      one_more : count_by is_some (set m.flights slot (Some new_flight)) ≡ count_by in_flight (new_payload 0 ∷ a.payloads)
      one_more =
          let c = count_written m.flights slot (Some new_flight) h.within in
          let s : ◌≡◌ {A = ℕ} (cond (is_some (at m.flights slot)) 1 0) 0 = ap (λ (q : Option Flight). cond {A = ℕ} (is_some q) 1 0) h.free in
          let d = count_cons in_flight (new_payload 0) a.payloads in
          let e = i.count in
          omega (arith, c, s, d, e)

      slot_low : slot < 16
      slot_low = let l = h.within in let e = i.slots in omega (arith, l, e)

      here : at (set m.flights slot (Some new_flight)) slot ≡ Some new_flight
      here = get_or-set_same m.flights slot (Some new_flight) None h.within

      older_fates : AllByRecursion (Fate (set m.flights slot (Some new_flight))) a.payloads
      older_fates =
          all_both (λ p. p.number < a.next) (Fate m.flights) (Fate (set m.flights slot (Some new_flight)))
          (λ p l t. fate_filled m.flights slot new_flight h.free p (let e = i.next in omega (arith, l, e)) t)
          a.payloads i.low i.fates

      parts : (k : ℕ) (g : Flight) → at n.flights k ≡ Some g → ((k ≡ slot) × (new_flight ≡ g)) ⊎ ((k ≡ slot → ⊥) × (at m.flights k ≡ Some g))
      parts k g e = go (written m.flights slot (Some new_flight) k g (subst (λ (l : Flights). at l k ≡ Some g) h.flights e))
        where
          go : ((k ≡ slot) × (Some new_flight ≡ Some g)) ⊎ ((k ≡ slot → ⊥) × (at m.flights k ≡ Some g)) → ((k ≡ slot) × (new_flight ≡ g)) ⊎ ((k ≡ slot → ⊥) × (at m.flights k ≡ Some g))
          go (inl w) = inl (w.0, same_Some new_flight g w.1)
          go (inr w) = inr w

      carries_new : Carries n slot new_flight (new_payload 0)
      carries_new =
          record {
            number = sym i.next;
            ue = refl;
            session = refl;
            in_flight = refl;
            octets = ap (λ (l : List ℕ). slot_octets l slot (length x.payload)) h.pool ∙ octets_here m.pool slot x.payload pool slot_low;
          }

      flights_then : (k : ℕ) (g : Flight) → ((k ≡ slot) × (new_flight ≡ g)) ⊎ ((k ≡ slot → ⊥) × (at m.flights k ≡ Some g)) → (p : Payload) × (payload_of (with_new 0) g.number ≡ Some p) × Carries n k g p
      flights_then k g (inl w) =
          subst (λ (f : Flight). (p : Payload) × (payload_of (with_new 0) f.number ≡ Some p) × Carries n k f p) w.1
          (subst (λ (j : ℕ). (p : Payload) × (payload_of (with_new 0) m.next ≡ Some p) × Carries n j new_flight p) (sym w.0)
          (new_payload 0, found_new 0 m.next (sym i.next), carries_new))
      flights_then k g (inr w) =
          let y = i.flights k g w.1 in (
            y.0,
            found_then 0 g.number (lower k g w.1) ∙ y.1,
            carries_like m n k g g y.0 (like_itself g) (ap (λ (l : List ℕ). slot_octets l k g.length) h.pool ∙ octets_beside m.pool slot x.payload k g.length pool slot_low fits (i.short k g w.1) w.0) y.2,
          )

      -- an older flight has another number
      older : (k : ℕ) (g : Flight) → at m.flights k ≡ Some g → m.next ≡ g.number → ⊥
      older k g e z = let l = lower k g e in let y = i.next in omega (arith, l, z, y)

      apart_then : (j k : ℕ) (f g : Flight) → f.number ≡ g.number → ((j ≡ slot) × (new_flight ≡ f)) ⊎ ((j ≡ slot → ⊥) × (at m.flights j ≡ Some f)) → ((k ≡ slot) × (new_flight ≡ g)) ⊎ ((k ≡ slot → ⊥) × (at m.flights k ≡ Some g)) → j ≡ k
      apart_then j k f g z (inl w) (inl y) = w.0 ∙ sym y.0
      apart_then j k f g z (inl w) (inr y) = absurd (older k g y.1 (ap (λ (q : Flight). q.number) w.1 ∙ z))
      apart_then j k f g z (inr w) (inl y) = absurd (older j f w.1 (ap (λ (q : Flight). q.number) y.1 ∙ sym z))
      apart_then j k f g z (inr w) (inr y) = i.apart j k f g w.1 y.1 z

      short_then : (k : ℕ) (g : Flight) → ((k ≡ slot) × (new_flight ≡ g)) ⊎ ((k ≡ slot → ⊥) × (at m.flights k ≡ Some g)) → g.length ≤ 2048
      short_then k g (inl w) = subst (λ (f : Flight). f.length ≤ 2048) w.1 fits
      short_then k g (inr w) = i.short k g w.1

      tied_then : (k : ℕ) (g : Flight) → ((k ≡ slot) × (new_flight ≡ g)) ⊎ ((k ≡ slot → ⊥) × (at m.flights k ≡ Some g)) → AllByRecursion (Tied g) all_contexts
      tied_then k g (inl w) = subst (λ (f : Flight). AllByRecursion (Tied f) all_contexts) w.1 tied_new
      tied_then k g (inr w) = tied_before k g w.1

  accepts : (s : Option ℕ) (ticket : Option Token) → smf_of v.decision ≡ s → Delivered new_flight x.payload s ticket m n → length m.pool ≡ 32768 → length x.payload ≤ 2048 → Invariant o (with_verdict a u x v) n
  accepts s ticket e h pool fits =
      subst (λ (r : ℕ). Invariant o (with_new r) n) (sym (ap (λ (q : Option ℕ). cond {A = ℕ} (is_some q) 0 1) e)) (go s ticket h)
    where
      go : (s : Option ℕ) (ticket : Option Token) → Delivered new_flight x.payload s ticket m n → Invariant o (with_new (cond (is_some s) 0 1)) n
      go None None d = returns d.0 d.1
      go None (Some t) d = absurd d
      go (Some smf) None d = absurd d
      go (Some smf) (Some t) d = places t.slot d.1 pool fits

receives : (o : Opening) (a : Account) (m : Model) (r : Received) (chosen : Option ℕ) (ticket : Option Token) (w : Answer) (n : Model) → Invariant o a m → IsPool r.pool m → Done m r chosen ticket w n → Invariant o (with_message o.core a r chosen (read r.octets)) n
receives o a m r chosen ticket w n i pool d =
    let x = d.message in
    let same : verdict_on m.core m.contexts r chosen x ≡ verdict_on o.core (contexts_in a) r chosen x =
    ap (λ (c : Core). verdict_on c m.contexts r chosen x) i.core ∙ sym (verdict_alike o.core (contexts_in a) m.contexts r chosen x i.contexts) in
    subst (λ (y : Result Message ℕ). Invariant o (with_message o.core a r chosen y) n) (sym d.reads)
    (accepts o a m i n r.ue.number x (verdict_on o.core (contexts_in a) r chosen x) d.accepted.core d.accepted.next
    (subst (λ (v : Verdict). Stands r.ue.number x.session (stood_after v r.ue.number x.session (lookup m.contexts r.ue.number x.session)) m n) same d.accepted.contexts)
    d.unflown
    (smf_of (verdict_on o.core (contexts_in a) r chosen x).decision)
    ticket
    refl
    (subst (λ (v : Verdict). Delivered (flight_of m.next r.ue.number x v) x.payload (smf_of v.decision) ticket m n) same d.accepted.delivered)
    (pool d.pool)
    d.short)

-- ---- each call

pub steps : (o : Opening) (e : Entry) (es : List Entry) (m n : Model) → Invariant o (account_of o es) m → Step m e n → Invariant o (account_of o (e ∷ es)) n
steps o (receive r chosen ticket (Ok a)) es m n i s = receives o (account_of o es) m r chosen ticket a n i s.0 (done m r chosen ticket a n s.1)
steps o (receive r chosen ticket (Err e)) es m n i s = kept o (account_of o es) m n (undone m r chosen ticket e n s.1).2 i
steps o (payload pool t (Ok a)) es m n i s = kept o (account_of o es) m n s.kept i
steps o (payload pool t (Err e)) es m n i s = kept o (account_of o es) m n s.kept i
steps o (taken t (Ok a)) es m n i s =
    let g = opened_flight (flight m t) (λ f. Ok tt) a s.answer in
    let h = held_is t.number (at m.flights t.slot) g.0 g.1 in
    takes o (account_of o es) m n t.slot t.number g.0 h.0 h.1 s.does i
steps o (failed pool output t (Ok a)) es m n i s =
    let g = opened_flight (flight m t) (λ f. passing (nat_le (f.length + 13) output) OutputLength (Ok (undelivered m t f))) a (passed (eqb pool pool_length) PoolLength _ a s.answer) in
    let h = held_is t.number (at m.flights t.slot) g.0 g.1 in
    fails o (account_of o es) m n t.slot t.number g.0 h.0 h.1 (s.does g.0 g.1) i
steps o (park t (Ok a)) es m n i s = remarks o (account_of o es) m n Parked t.slot s.does i
steps o (pick number (Ok t)) es m n i s = remarks o (account_of o es) m n InHand t.slot (s.does t refl) i
steps o (released u k (Ok a)) es m n i s = releases o (account_of o es) m n u k s.does i
-- a call that was refused
steps o e es m n i s = kept o (account_of o es) m n s.does i

-- ---- each payload in flight is a flight

-- some slot has it
abbrev pub Carried : Model → Payload → Type 0
Carried m p = (k : ℕ) × (f : Flight) × (at m.flights k ≡ Some f) × Carries m k f p

pub carried_by : (o : Opening) (a : Account) (m : Model) → Invariant o a m → AllByRecursion (λ p. in_flight p ≡ true → Carried m p) a.payloads
carried_by o a m i =
    all_both (Fate m.flights) (λ p. payload_of a p.number ≡ Some p) (λ p. in_flight p ≡ true → Carried m p) carries a.payloads i.fates (found_own a.payloads i.falling)
  where
    -- the flight's payload is the one that is found under its number
    of_flying : (p : Payload) → payload_of a p.number ≡ Some p → InFlight m.flights p.number → Carried m p
    of_flying p e q =
        let w = i.flights q.0 q.1 q.2 in
        let same : w.0 ≡ p = same_Some w.0 p (sym w.1 ∙ ap (payload_of a) q.3 ∙ e) in
        (q.0, q.1, q.2, subst (Carries m q.0 q.1) same w.2)

    none : (p : Payload) → in_flight p ≡ true → p.taken + p.returned ≡ 1 → ⊥
    none p b e = let z = eqb-true (p.taken + p.returned) 0 b in omega (arith, z, e)

    carries : (p : Payload) → Fate m.flights p → payload_of a p.number ≡ Some p → in_flight p ≡ true → Carried m p
    carries p x e b =
        elim x [ was_taken t r nay ↦ absurd (none p b (omega (arith, t, r))) | was_returned t r nay ↦ absurd (none p b (omega (arith, t, r))) | flies t r q ↦ of_flying p e q ]

-- so a session has a flight exactly if a payload of it is in flight
pub in_flight_alike : (o : Opening) (a : Account) (m : Model) → Invariant o a m → (u k : ℕ) → list_any (is_for u k) m.flights ≡ list_any (λ p. in_flight p && (eqb p.ue u && eqb p.session k)) a.payloads
in_flight_alike o a m i u k =
    same_tests (list_any (is_for u k) m.flights) (list_any here a.payloads) of_flights of_payloads
  where
    here : Payload → Bool
    here p = in_flight p && (eqb p.ue u && eqb p.session k)

    of_flights : list_any (is_for u k) m.flights ≡ true → list_any here a.payloads ≡ true
    of_flights e =
        let w = slot_of (is_for u k) refl m.flights e in
        let q = i.flights w.0 w.1 w.2 in
        let p = pair_of w.1.ue w.1.session u k w.3 in
        passes_any here a.payloads q.0
        (and_from (in_flight q.0) (eqb q.0.ue u && eqb q.0.session k) q.2.in_flight (pair_from q.0.ue q.0.session u k (q.2.ue ∙ p.0) (q.2.session ∙ p.1)))
        (found_in (λ p. eqb p.number w.1.number) a.payloads q.0 q.1).1

    of_payloads : list_any here a.payloads ≡ true → list_any (is_for u k) m.flights ≡ true
    of_payloads e =
        let w = one_passes here a.payloads e in
        let b = and_parts (in_flight w.0) (eqb w.0.ue u && eqb w.0.session k) w.2 in
        let p = pair_of w.0.ue w.0.session u k b.1 in
        let c = all_in (λ p. in_flight p ≡ true → Carried m p) a.payloads w.0 (carried_by o a m i) w.1 b.0 in
        list_any_at (is_for u k) m.flights c.0 None (within m.flights c.0 c.1 c.2)
        (ap (is_for u k) c.2 ∙ pair_from c.1.ue c.1.session u k (sym c.3.ue ∙ p.0) (sym c.3.session ∙ p.1))
