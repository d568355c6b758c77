-- The account's payloads, told by the places in the list of calls.
use Rattle.std.proofs.Common.{◌≡◌, ℕ, ◌+◌, Bool, true, false, cond, eqb, List, [], ◌∷◌, ◌++◌, map, is_some, Some, None, Ok, Option, sym, refl, ap, ◌∙◌, subst, inl, inr, arith}
use Rattle.std.specs.List.{list_any, count_by}
use Rattle.std.proofs.lemmas.List.{map-id}
use Rattle.std.proofs.lemmas.Bool.{or_from, eqb-true, eqb-false, eq-eqb, ne_eqb}
use Rattle.accounts.specs.Receives.{Received, Answer}
use Rattle.accounts.specs.Accounts.{Payload, in_flight, counted, counted_at}
use Rattle.flights.specs.declared.flight.Flight.{Flight}
use Rattle.nas.specs.Uplinks.{Message, read}
use Rattle.verdicts.specs.Verdicts.{smf_of}
use Rattle.runs.specs.Models.{Token}
use Rattle.runs.specs.Entries.{Entry, receive, taken, failed}
use Rattle.runs.specs.Positions.{ends_taken, ends_failed, Flying}
use Rattle.runs.specs.Laws.{InFlight, Fate, Outcome}
use Rattle.runs.specs.Laws.Fate.{was_taken, was_returned, flies}
use Rattle.runs.specs.Laws.Outcome.{went_back, taken_once, failed_once, still_flies}
use Rattle.stores.proofs.Counts.{count_cons}
use Rattle.runs.proofs.Members.{In, in_map, from_map}
use Rattle.runs.proofs.Places.{head_same, tail_same, none_apart}

-- the payload is that of the message that this receive accepted, and was taken and returned as the calls since tell
pub record Counts (later : List Entry) (r : Received) (a : Answer) (p : Payload) : Type 0 where
  pub message : Message
  pub reads : read r.octets ≡ Ok message
  pub number : p.number ≡ a.number
  pub octets : p.octets ≡ message.payload
  pub session : p.session ≡ message.session
  pub taken : p.taken ≡ count_by (ends_taken a.number) later
  pub returned : p.returned ≡ cond (is_some (smf_of a.verdict.decision)) 0 1 + count_by (ends_failed a.number) later

-- the payload is that of some receive of these calls
pub record Holds (es : List Entry) (p : Payload) : Type 0 where
  pub later : List Entry
  pub received : Received
  pub chosen : Option ℕ
  pub ticket : Option Token
  pub answer : Answer
  pub earlier : List Entry
  pub whole : es ≡ later ++ receive received chosen ticket (Ok answer) ∷ earlier
  pub counts : Counts later received answer p

-- each payload is that of an accepted receive, and each accepted receive has its payload
pub record Paid (es : List Entry) (ps : List Payload) : Type 0 where
  pub from : (p : Payload) → In p ps → Holds es p
  pub to : (later earlier : List Entry) (r : Received) (chosen : Option ℕ) (ticket : Option Token) (a : Answer) → es ≡ later ++ receive r chosen ticket (Ok a) ∷ earlier → (p : Payload) × In p ps × Counts later r a p

-- ---- one more call

-- what a call makes of a payload
pub record Moves (e : Entry) (p q : Payload) : Type 0 where
  pub number : q.number ≡ p.number
  pub octets : q.octets ≡ p.octets
  pub session : q.session ≡ p.session
  pub taken : q.taken ≡ p.taken + cond (ends_taken p.number e) 1 0
  pub returned : q.returned ≡ p.returned + cond (ends_failed p.number e) 1 0

counts_more : (e : Entry) (later : List Entry) (r : Received) (a : Answer) (p q : Payload) → Moves e p q → Counts later r a p → Counts (e ∷ later) r a q
counts_more e later r a p q m c =
    let t : cond {A = ℕ} (ends_taken p.number e) 1 0 ≡ cond {A = ℕ} (ends_taken a.number e) 1 0 = ap (λ (n : ℕ). cond {A = ℕ} (ends_taken n e) 1 0) c.number in
    let f : cond {A = ℕ} (ends_failed p.number e) 1 0 ≡ cond {A = ℕ} (ends_failed a.number e) 1 0 = ap (λ (n : ℕ). cond {A = ℕ} (ends_failed n e) 1 0) c.number in
    let ts = count_cons (ends_taken a.number) e later in
    let fs = count_cons (ends_failed a.number) e later in
    record {
      message = c.message;
      reads = c.reads;
      number = m.number ∙ c.number;
      octets = m.octets ∙ c.octets;
      session = m.session ∙ c.session;
      taken = omega (arith, m.taken, c.taken, t, ts);
      returned = omega (arith, m.returned, c.returned, f, fs);
    }

holds_more : (e : Entry) (es : List Entry) (p q : Payload) → Moves e p q → Holds es p → Holds (e ∷ es) q
holds_more e es p q m h = record {
  later = e ∷ h.later;
  received = h.received;
  chosen = h.chosen;
  ticket = h.ticket;
  answer = h.answer;
  earlier = h.earlier;
  whole = ap (λ (r : List Entry). e ∷ r) h.whole;
  counts = counts_more e h.later h.received h.answer p q m h.counts;
}

-- a call that accepts nothing
abbrev pub AcceptsNone : Entry → Type 0
AcceptsNone e = (r : Received) (chosen : Option ℕ) (ticket : Option Token) (a : Answer) → e ≡ receive r chosen ticket (Ok a) → ⊥

pub moved : (e : Entry) (es : List Entry) (f : Payload → Payload) (ps : List Payload) → AcceptsNone e → ((p : Payload) → Moves e p (f p)) → Paid es ps → Paid (e ∷ es) (map f ps)
moved e es f ps none moves t = record {
  from = λ q i. let x = from_map f ps q i in subst (Holds (e ∷ es)) x.2 (holds_more e es x.0 (f x.0) (moves x.0) (t.from x.0 x.1));
  to = λ later earlier r chosen ticket a w. go later earlier r chosen ticket a w;
}
  where
    go : (later earlier : List Entry) (r : Received) (chosen : Option ℕ) (ticket : Option Token) (a : Answer) → e ∷ es ≡ later ++ receive r chosen ticket (Ok a) ∷ earlier → (p : Payload) × In p (map f ps) × Counts later r a p
    go [] earlier r chosen ticket a w = absurd (none r chosen ticket a (head_same e _ es _ w))
    go (d ∷ ds) earlier r chosen ticket a w =
        let x = t.to ds earlier r chosen ticket a (tail_same e d es _ w) in
        (f x.0, in_map f ps x.0 x.1, subst (λ (c : Entry). Counts (c ∷ ds) r a (f x.0)) (head_same e d es _ w) (counts_more e ds r a x.0 (f x.0) (moves x.0) x.2))

-- a call that changes no payload
pub unmoved : (e : Entry) (es : List Entry) (ps : List Payload) → AcceptsNone e → ((n : ℕ) → ends_taken n e ≡ false) → ((n : ℕ) → ends_failed n e ≡ false) → Paid es ps → Paid (e ∷ es) ps
unmoved e es ps none untaken unfailed t =
    subst (Paid (e ∷ es)) (map-id ps) (moved e es (λ p. p) ps none (λ p. same p) t)
  where
    same : (p : Payload) → Moves e p p
    same p =
        let u : cond {A = ℕ} (ends_taken p.number e) 1 0 ≡ 0 = ap (λ (b : Bool). cond {A = ℕ} b 1 0) (untaken p.number) in
        let v : cond {A = ℕ} (ends_failed p.number e) 1 0 ≡ 0 = ap (λ (b : Bool). cond {A = ℕ} b 1 0) (unfailed p.number) in
        record { number = refl; octets = refl; session = refl; taken = omega (arith, u); returned = omega (arith, v) }

-- a test of two numbers, read from either side
turned : (j k : ℕ) → eqb j k ≡ eqb k j
turned j k = go (eqb j k) refl
  where
    go : (b : Bool) → eqb j k ≡ b → b ≡ eqb k j
    go true e = sym (eq-eqb k j (sym (eqb-true j k e)))
    go false e = sym (ne_eqb k j (λ z. eqb-false j k e (sym z)))

-- what is counted where a test passes
counts_up : (t r : ℕ) (p : Payload) (b : Bool) → ((cond b (counted t r p) p).number ≡ p.number) × ((cond b (counted t r p) p).octets ≡ p.octets) × ((cond b (counted t r p) p).session ≡ p.session) × ((cond b (counted t r p) p).taken ≡ p.taken + cond b t 0) × ((cond b (counted t r p) p).returned ≡ p.returned + cond b r 0)
counts_up t r p true = (refl, refl, refl, refl, refl)
counts_up t r p false = (refl, refl, refl, omega arith, omega arith)

-- one that takes the payloads of a number
pub taken_one : (u : Token) (x : Unit {0}) (es : List Entry) (ps : List Payload) → Paid es ps → Paid (taken u (Ok x) ∷ es) (counted_at u.number 1 0 ps)
taken_one u x es ps t =
    moved (taken u (Ok x)) es (λ p. cond (eqb p.number u.number) (counted 1 0 p) p) ps (λ r chosen ticket a e. cc) moves t
  where
    moves : (p : Payload) → Moves (taken u (Ok x)) p (cond (eqb p.number u.number) (counted 1 0 p) p)
    moves p =
        let c = counts_up 1 0 p (eqb p.number u.number) in
        record {
          number = c.0;
          octets = c.1;
          session = c.2;
          taken = c.3 ∙ ap (λ (b : Bool). p.taken + cond {A = ℕ} b 1 0) (turned p.number u.number);
          returned = c.4 ∙ none (eqb p.number u.number);
        }
      where
        none : (b : Bool) → p.returned + cond {A = ℕ} b 0 0 ≡ p.returned + 0
        none true = refl
        none false = refl

-- one at which they fail
pub failed_one : (pool output : ℕ) (u : Token) (octets : List ℕ) (es : List Entry) (ps : List Payload) → Paid es ps → Paid (failed pool output u (Ok octets) ∷ es) (counted_at u.number 0 1 ps)
failed_one pool output u octets es ps t =
    moved (failed pool output u (Ok octets)) es (λ p. cond (eqb p.number u.number) (counted 0 1 p) p) ps (λ r chosen ticket a e. cc) moves t
  where
    moves : (p : Payload) → Moves (failed pool output u (Ok octets)) p (cond (eqb p.number u.number) (counted 0 1 p) p)
    moves p =
        let c = counts_up 0 1 p (eqb p.number u.number) in
        record {
          number = c.0;
          octets = c.1;
          session = c.2;
          taken = c.3 ∙ none (eqb p.number u.number);
          returned = c.4 ∙ ap (λ (b : Bool). p.returned + cond {A = ℕ} b 1 0) (turned p.number u.number);
        }
      where
        none : (b : Bool) → p.taken + cond {A = ℕ} b 0 0 ≡ p.taken + 0
        none true = refl
        none false = refl

-- and one that accepts a message
pub accepted_one : (r : Received) (chosen : Option ℕ) (ticket : Option Token) (a : Answer) (es : List Entry) (ps : List Payload) (p : Payload) → Counts [] r a p → Paid es ps → Paid (receive r chosen ticket (Ok a) ∷ es) (p ∷ ps)
accepted_one r chosen ticket a es ps p c t = record { from = back; to = forth }
  where
    same : (q : Payload) → Moves (receive r chosen ticket (Ok a)) q q
    same q = record { number = refl; octets = refl; session = refl; taken = omega arith; returned = omega arith }

    back : (q : Payload) → In q (p ∷ ps) → Holds (receive r chosen ticket (Ok a) ∷ es) q
    back q (inl e) = record { later = []; received = r; chosen = chosen; ticket = ticket; answer = a; earlier = es; whole = refl; counts = subst (Counts [] r a) (sym e) c }
    back q (inr j) = holds_more (receive r chosen ticket (Ok a)) es q q (same q) (t.from q j)

    first : (r v : Received) (chosen d : Option ℕ) (ticket k : Option Token) (a b : Answer) → receive r chosen ticket (Ok a) ≡ receive v d k (Ok b) → (r ≡ v) × (a ≡ b)
    first r v chosen d ticket k a b e = (cc, cc)

    forth : (later earlier : List Entry) (v : Received) (d : Option ℕ) (k : Option Token) (b : Answer) → receive r chosen ticket (Ok a) ∷ es ≡ later ++ receive v d k (Ok b) ∷ earlier → (q : Payload) × In q (p ∷ ps) × Counts later v b q
    forth [] earlier v d k b w =
        let e = first r v chosen d ticket k a b (head_same _ _ es earlier w) in
        (p, inl refl, subst (λ (y : Answer). Counts [] v y p) e.1 (subst (λ (y : Received). Counts [] y a p) e.0 c))
    forth (x ∷ xs) earlier v d k b w =
        let y = t.to xs earlier v d k b (tail_same _ x es _ w) in
        (y.0, inr y.1, subst (λ (z : Entry). Counts (z ∷ xs) v b y.0) (head_same _ x es _ w) (counts_more (receive r chosen ticket (Ok a)) xs v b y.0 y.0 (same y.0) y.2))

pub paid_none : Paid [] []
paid_none = record { from = λ p i. absurd i; to = λ later earlier r chosen ticket a w. absurd (none_apart later earlier _ w) }

-- ---- what a payload's counts say

-- what is counted never passes nowhere
none_counted : {X : Type 0} (test : X → Bool) (xs : List X) → count_by test xs ≡ 0 → list_any test xs ≡ false
none_counted test [] e = refl
none_counted test (x ∷ xs) e =
    let s = count_cons test x xs in
    or_from (test x) (list_any test xs) (fails_here (test x) (omega (arith, e, s))) (none_counted test xs (omega (arith, e, s)))
  where
    fails_here : (b : Bool) → cond {A = ℕ} b 1 0 ≡ 0 → b ≡ false
    fails_here true z = absurd (omega (arith, z))
    fails_here false z = refl

is_forwarded : (b : Bool) → cond {A = ℕ} b 0 1 ≡ 0 → b ≡ true
is_forwarded true z = refl
is_forwarded false z = absurd (omega (arith, z))

-- one that is in flight was forwarded, and was neither taken nor failed
pub flying : (es : List Entry) (p : Payload) (h : Holds es p) → in_flight p ≡ true → Flying es p.number h.counts.message
flying es p h e =
    let c = h.counts in
    let z = eqb-true (p.taken + p.returned) 0 e in
    record {
      later = h.later;
      received = h.received;
      chosen = h.chosen;
      ticket = h.ticket;
      answer = h.answer;
      earlier = h.earlier;
      whole = h.whole;
      number = sym c.number;
      reads = c.reads;
      forwarded = is_forwarded (is_some (smf_of h.answer.verdict.decision)) (omega (arith, c.returned, z));
      untaken = ap (λ (n : ℕ). list_any (ends_taken n) h.later) c.number ∙ none_counted (ends_taken h.answer.number) h.later (omega (arith, c.taken, z));
      unfailed = ap (λ (n : ℕ). list_any (ends_failed n) h.later) c.number ∙ none_counted (ends_failed h.answer.number) h.later (omega (arith, c.returned, z));
    }

-- by what became of it
pub outcome : (flights : List (Option Flight)) (later : List Entry) (r : Received) (a : Answer) (p : Payload) → Counts later r a p → Fate flights p → Outcome flights later a
outcome flights later r a p c f = go (smf_of a.verdict.decision) refl c.returned f
  where
    gone : (InFlight flights p.number → ⊥) → InFlight flights a.number → ⊥
    gone nay q = nay (q.0, q.1, q.2, q.3 ∙ sym c.number)

    forwarded : (s : ℕ) → smf_of a.verdict.decision ≡ Some s → is_some (smf_of a.verdict.decision) ≡ true
    forwarded s e = ap (λ (o : Option ℕ). is_some o) e

    go : (o : Option ℕ) → smf_of a.verdict.decision ≡ o → p.returned ≡ cond (is_some o) 0 1 + count_by (ends_failed a.number) later → Fate flights p → Outcome flights later a
    go None e z (was_taken t u nay) = absurd (omega (arith, z, u))
    go None e z (was_returned t u nay) = went_back e (omega (arith, c.taken, t)) (omega (arith, z, u)) (gone nay)
    go None e z (flies t u q) = absurd (omega (arith, z, u))
    go (Some s) e z (was_taken t u nay) = taken_once (forwarded s e) (omega (arith, c.taken, t)) (omega (arith, z, u)) (gone nay)
    go (Some s) e z (was_returned t u nay) = failed_once (forwarded s e) (omega (arith, c.taken, t)) (omega (arith, z, u)) (gone nay)
    go (Some s) e z (flies t u q) = still_flies (forwarded s e) (omega (arith, c.taken, t)) (omega (arith, z, u)) (q.0, q.1, q.2, q.3 ∙ c.number)
