-- What becomes of payloads where a slot of flights is written, and of their numbers.
use Rattle.std.proofs.Common.{◌≡◌, ℕ, ◌+◌, ◌<◌, Bool, true, false, cond, eqb, ◌⊎◌, List, [], ◌∷◌, length, set, Some, None, Option, is_some, sym, refl, ap, ◌∙◌, subst, inl, inr, ⊎_elim, arith, length-set}
use Rattle.std.specs.List.{AllByRecursion, find, count_by}
use Rattle.std.proofs.lemmas.Bool.{cases_eq, eq-eqb, eqb-true, eqb-false, ne_eqb}
use Rattle.std.proofs.lemmas.List.{get_or-set_same}
use Rattle.std.proofs.lemmas.Option.{same_Some, none-some}
use Rattle.accounts.specs.Accounts.{Payload, in_flight, counted, counted_at}
use Rattle.flights.specs.declared.flight.Flight.{Flight}
use Rattle.flights.specs.declared.flight.Mark.{Mark}
use Rattle.flights.specs.Slots.{at, marked, with_mark}
use Rattle.stores.proofs.Counts.{count_cons}
use Rattle.runs.specs.Laws.{InFlight, Fate}
use Rattle.runs.specs.Laws.Fate.{was_taken, was_returned, flies}
use Rattle.runs.proofs.Lists.{all_both, all_map}
use Rattle.runs.proofs.Slots.{Flights, within, written, beside, count_marked}

-- two flights have two numbers
abbrev pub Apart : Flights → Type 0
Apart fs = (j k : ℕ) (f g : Flight) → at fs j ≡ Some f → at fs k ≡ Some g → f.number ≡ g.number → j ≡ k

-- ---- other marks

-- the flights are one but for the mark
pub record Like (f g : Flight) : Type 0 where
  pub number : f.number ≡ g.number
  pub ue : f.ue ≡ g.ue
  pub session : f.session ≡ g.session
  pub length : f.length ≡ g.length
  pub establishes : f.establishes ≡ g.establishes

-- the slots are the same but for marks
pub record Remarked (fs gs : Flights) : Type 0 where
  pub size : length gs ≡ length fs
  pub count : count_by is_some gs ≡ count_by is_some fs
  pub back : (k : ℕ) (f : Flight) → at gs k ≡ Some f → (g : Flight) × (at fs k ≡ Some g) × Like f g
  pub forth : (k : ℕ) (g : Flight) → at fs k ≡ Some g → (f : Flight) × (at gs k ≡ Some f) × (f.number ≡ g.number)

pub like_itself : (f : Flight) → Like f f
like_itself f = record { number = refl; ue = refl; session = refl; length = refl; establishes = refl }

pub unmarked : (fs gs : Flights) → gs ≡ fs → Remarked fs gs
unmarked fs gs e =
    record {
      size = ap (λ (l : Flights). length l) e;
      count = ap (λ (l : Flights). count_by is_some l) e;
      back = λ k f h. (f, subst (λ (l : Flights). at l k ≡ Some f) e h, like_itself f);
      forth = λ k g h. (g, subst (λ (l : Flights). at l k ≡ Some g) (sym e) h, refl);
    }

pub one_remarked : (mark : Mark) (fs : Flights) (k : ℕ) → Remarked fs (set fs k (marked mark (at fs k)))
one_remarked mark fs k =
    record {
      size = length-set fs k (marked mark (at fs k));
      count = count_marked mark fs k;
      back = λ j f h. back_at j f (written fs k (marked mark (at fs k)) j f h);
      forth = λ j g h. forth_at j g h (cases_eq j k);
    }
  where
    of_marked : (o : Option Flight) (f : Flight) → marked mark o ≡ Some f → (g : Flight) × (o ≡ Some g) × Like f g
    of_marked None f e = absurd (none-some f e)
    of_marked (Some g) f e =
        let z : with_mark mark g ≡ f = same_Some (with_mark mark g) f e in (
          g,
          refl,
          record {
            number = ap (λ (x : Flight). x.number) (sym z);
            ue = ap (λ (x : Flight). x.ue) (sym z);
            session = ap (λ (x : Flight). x.session) (sym z);
            length = ap (λ (x : Flight). x.length) (sym z);
            establishes = ap (λ (x : Flight). x.establishes) (sym z);
          },
        )

    back_at : (j : ℕ) (f : Flight) → ((j ≡ k) × (marked mark (at fs k) ≡ Some f)) ⊎ ((j ≡ k → ⊥) × (at fs j ≡ Some f)) → (g : Flight) × (at fs j ≡ Some g) × Like f g
    back_at j f (inl h) = let x = of_marked (at fs k) f h.1 in (x.0, ap (at fs) h.0 ∙ x.1, x.2)
    back_at j f (inr h) = (f, h.1, like_itself f)

    forth_at : (j : ℕ) (g : Flight) → at fs j ≡ Some g → (j ≡ k) ⊎ (j ≡ k → ⊥) → (f : Flight) × (at (set fs k (marked mark (at fs k))) j ≡ Some f) × (f.number ≡ g.number)
    forth_at j g h (inl z) =
        let e : at fs k ≡ Some g = ap (at fs) (sym z) ∙ h in (
          with_mark mark g,
          ap (at (set fs k (marked mark (at fs k)))) z ∙ get_or-set_same fs k (marked mark (at fs k)) None (within fs k g e) ∙ ap (marked mark) e,
          refl,
        )
    forth_at j g h (inr z) = (g, beside fs k (marked mark (at fs k)) j z ∙ h, refl)

pub fate_remarked : (fs gs : Flights) → Remarked fs gs → (p : Payload) → Fate fs p → Fate gs p
fate_remarked fs gs h p x = elim x [ was_taken t r n ↦ was_taken t r (still n) | was_returned t r n ↦ was_returned t r (still n) | flies t r q ↦ flies t r (on q) ]
  where
    still : (InFlight fs p.number → ⊥) → InFlight gs p.number → ⊥
    still n q = let b = h.back q.0 q.1 q.2 in n (q.0, b.0, b.1, sym b.2.number ∙ q.3)

    on : InFlight fs p.number → InFlight gs p.number
    on q = let b = h.forth q.0 q.1 q.2 in (q.0, b.0, b.1, b.2 ∙ q.3)

-- ---- a slot that was freed

module _ (fs : Flights) (k : ℕ) (f : Flight) (here : at fs k ≡ Some f) (apart : Apart fs) where
  -- what flies once the slot is free flew in another one
  pub freed_back : (j : ℕ) (g : Flight) → at (set fs k None) j ≡ Some g → (j ≡ k → ⊥) × (at fs j ≡ Some g)
  freed_back j g h = go (written fs k None j g h)
    where
      go : ((j ≡ k) × (None ≡ Some g)) ⊎ ((j ≡ k → ⊥) × (at fs j ≡ Some g)) → (j ≡ k → ⊥) × (at fs j ≡ Some g)
      go (inl x) = absurd (none-some g x.1)
      go (inr x) = x

  -- and has another number
  pub freed_other : (j : ℕ) (g : Flight) → at (set fs k None) j ≡ Some g → g.number ≡ f.number → ⊥
  freed_other j g h e = let b = freed_back j g h in b.0 (apart j k g f b.1 here e)

  fate_freed : (n t r : ℕ) → f.number ≡ n → ((p : Payload) → p.taken ≡ 0 → p.returned ≡ 0 → (InFlight (set fs k None) p.number → ⊥) → Fate (set fs k None) (counted t r p)) → (p : Payload) → Fate fs p → Fate (set fs k None) (cond (eqb p.number n) (counted t r p) p)
  fate_freed n t r e ends p x = go (eqb p.number n) refl
    where
      gone : p.number ≡ f.number → InFlight (set fs k None) p.number → ⊥
      gone z q = freed_other q.0 q.1 q.2 (q.3 ∙ z)

      still : (InFlight fs p.number → ⊥) → InFlight (set fs k None) p.number → ⊥
      still nay q = nay (q.0, q.1, (freed_back q.0 q.1 q.2).1, q.3)

      on : (p.number ≡ n → ⊥) → InFlight fs p.number → InFlight (set fs k None) p.number
      on d q = (
        q.0,
        q.1,
        beside fs k None q.0 (λ z. d (sym q.3 ∙ ap (λ (g : Flight). g.number) (same_Some q.1 f (sym q.2 ∙ ap (at fs) z ∙ here)) ∙ e)) ∙ q.2,
        q.3,
      )

      go : (b : Bool) → eqb p.number n ≡ b → Fate (set fs k None) (cond b (counted t r p) p)
      go true z =
          let y : p.number ≡ f.number = eqb-true p.number n z ∙ sym e in
          elim x [ was_taken u v nay ↦ absurd (nay (k, f, here, sym y)) | was_returned u v nay ↦ absurd (nay (k, f, here, sym y)) | flies u v q ↦ ends p u v (gone y) ]
      go false z =
          elim x [ was_taken u v nay ↦ was_taken u v (still nay) | was_returned u v nay ↦ was_returned u v (still nay) | flies u v q ↦ flies u v (on (eqb-false p.number n z) q) ]

  pub fates_freed : (n t r : ℕ) → f.number ≡ n → ((p : Payload) → p.taken ≡ 0 → p.returned ≡ 0 → (InFlight (set fs k None) p.number → ⊥) → Fate (set fs k None) (counted t r p)) → (ps : List Payload) → AllByRecursion (Fate fs) ps → AllByRecursion (Fate (set fs k None)) (counted_at n t r ps)
  fates_freed n t r e ends = all_map (Fate fs) (Fate (set fs k None)) (λ p. cond (eqb p.number n) (counted t r p) p) (fate_freed n t r e ends)

-- ---- a slot that was filled

module _ (fs : Flights) (k : ℕ) (f : Flight) (free : at fs k ≡ None) where
  pub not_free : (j : ℕ) (g : Flight) → at fs j ≡ Some g → j ≡ k → ⊥
  not_free j g h e = none-some g (sym free ∙ ap (at fs) (sym e) ∙ h)

  pub fate_filled : (p : Payload) → p.number < f.number → Fate fs p → Fate (set fs k (Some f)) p
  fate_filled p l x = elim x [ was_taken t r n ↦ was_taken t r (still n) | was_returned t r n ↦ was_returned t r (still n) | flies t r q ↦ flies t r (q.0, q.1, beside fs k (Some f) q.0 (not_free q.0 q.1 q.2) ∙ q.2, q.3) ]
    where
      still : (InFlight fs p.number → ⊥) → InFlight (set fs k (Some f)) p.number → ⊥
      still n q =
          ⊎_elim
          (λ h. let e = ap (λ (g : Flight). g.number) (same_Some f q.1 h.1) in let d = q.3 in omega (arith, e, d, l))
          (λ h. n (q.0, q.1, h.1, q.3))
          (written fs k (Some f) q.0 q.1 q.2)

-- ---- numbers of payloads

-- each payload has a higher number than those that were accepted before it
abbrev pub Falling : List Payload → Type 0
Falling [] = Unit {0}
Falling (p ∷ ps) = AllByRecursion (λ q. q.number < p.number) ps × Falling ps

-- so each is the one that is found under its number
pub found_own : (ps : List Payload) → Falling ps → AllByRecursion (λ p. find (λ q. eqb q.number p.number) ps ≡ Some p) ps
found_own [] h = tt
found_own (p ∷ ps) h = (
  ap (λ (b : Bool). cond b (Some p) (find (λ (x : Payload). eqb x.number p.number) ps)) (eq-eqb p.number p.number refl),
  all_both (λ q. q.number < p.number) (λ q. find (λ x. eqb x.number q.number) ps ≡ Some q) (λ q. find (λ x. eqb x.number q.number) (p ∷ ps) ≡ Some q)
      (λ q l e. ap (λ (b : Bool). cond b (Some p) (find (λ (x : Payload). eqb x.number q.number) ps)) (ne_eqb p.number q.number (λ z. omega (arith, l, z))) ∙ e)
      ps h.0 (found_own ps h.1),
)

-- ---- numbers and finding among counted payloads

number_counted : (t r : ℕ) (p : Payload) (b : Bool) → p.number ≡ (cond b (counted t r p) p).number
number_counted t r p true = refl
number_counted t r p false = refl

pub low_counted : (n t r bound : ℕ) (ps : List Payload) → AllByRecursion (λ p. p.number < bound) ps → AllByRecursion (λ p. p.number < bound) (counted_at n t r ps)
low_counted n t r bound =
    all_map (λ p. p.number < bound) (λ p. p.number < bound) (λ p. cond (eqb p.number n) (counted t r p) p)
    (λ p l. subst (λ (j : ℕ). j < bound) (number_counted t r p (eqb p.number n)) l)

pub falling_counted : (n t r : ℕ) (ps : List Payload) → Falling ps → Falling (counted_at n t r ps)
falling_counted n t r [] h = tt
falling_counted n t r (p ∷ ps) h = (
  subst (λ (j : ℕ). AllByRecursion (λ q. q.number < j) (counted_at n t r ps)) (number_counted t r p (eqb p.number n)) (low_counted n t r p.number ps h.0),
  falling_counted n t r ps h.1,
)

-- a payload of another number is found as before
pub found_counted : (n t r j : ℕ) → (j ≡ n → ⊥) → (ps : List Payload) → find (λ p. eqb p.number j) (counted_at n t r ps) ≡ find (λ p. eqb p.number j) ps
found_counted n t r j d [] = refl
found_counted n t r j d (p ∷ ps) = go (eqb p.number n) refl (found_counted n t r j d ps)
  where
    go : (b : Bool) → eqb p.number n ≡ b → find (λ (q : Payload). eqb q.number j) (counted_at n t r ps) ≡ find (λ (q : Payload). eqb q.number j) ps → cond (eqb (cond b (counted t r p) p).number j) (Some (cond b (counted t r p) p)) (find (λ (q : Payload). eqb q.number j) (counted_at n t r ps)) ≡ cond (eqb p.number j) (Some p) (find (λ (q : Payload). eqb q.number j) ps)
    go true z rest =
        let y : eqb p.number j ≡ false = ne_eqb p.number j (λ w. d (sym w ∙ eqb-true p.number n z)) in
        rw y rest
    go false z rest = ap (λ (l : Option Payload). cond (eqb p.number j) (Some p) l) rest

-- ---- how many payloads are in flight

-- one that was taken or returned is not
landed : (t r : ℕ) (p : Payload) → t + r ≡ 1 → in_flight (counted t r p) ≡ false
landed t r p e = ne_eqb (p.taken + t + (p.returned + r)) 0 (λ z. omega (arith, e, z))

-- payloads of lower numbers stay
uncounted : (n t r : ℕ) (ps : List Payload) → AllByRecursion (λ p. p.number < n) ps → counted_at n t r ps ≡ ps
uncounted n t r [] h = refl
uncounted n t r (p ∷ ps) h =
    let e : eqb p.number n ≡ false = ne_eqb p.number n (λ z. let l = h.0 in omega (arith, l, z)) in
    λ i. cond (e i) (counted t r p) p ∷ uncounted n t r ps h.1 i

-- where the one in flight of this number is taken or returned, there is one less
pub count_counted : (n t r : ℕ) → t + r ≡ 1 → (ps : List Payload) → Falling ps → (p : Payload) → find (λ q. eqb q.number n) ps ≡ Some p → in_flight p ≡ true → count_by in_flight (counted_at n t r ps) + 1 ≡ count_by in_flight ps
count_counted n t r s [] h p e b = absurd (none-some p e)
count_counted n t r s (q ∷ ps) h p e b =
    let c = count_cons in_flight q ps in
    let d = count_cons in_flight (cond (eqb q.number n) (counted t r q) q) (counted_at n t r ps) in
    let w = go (eqb q.number n) refl (λ f. count_counted n t r s ps h.1 p f b) e in
    omega (arith, c, d, w)
  where
    go : (y : Bool) → eqb q.number n ≡ y → (find (λ (x : Payload). eqb x.number n) ps ≡ Some p → count_by in_flight (counted_at n t r ps) + 1 ≡ count_by in_flight ps) → cond y (Some q) (find (λ (x : Payload). eqb x.number n) ps) ≡ Some p → cond (in_flight (cond y (counted t r q) q)) 1 0 + count_by in_flight (counted_at n t r ps) + 1 ≡ cond (in_flight q) 1 0 + count_by in_flight ps
    go true z rest w =
        let same : q ≡ p = same_Some q p w in
        let down : ◌≡◌ {A = ℕ} (cond (in_flight (counted t r q)) 1 0) 0 = ap (λ (v : Bool). cond {A = ℕ} v 1 0) (landed t r q s) in
        let up : ◌≡◌ {A = ℕ} (cond (in_flight q) 1 0) 1 = ap (λ (v : Bool). cond {A = ℕ} v 1 0) (ap (λ (x : Payload). in_flight x) same ∙ b) in
        let lower = subst (λ (j : ℕ). AllByRecursion (λ x. x.number < j) ps) (eqb-true q.number n z) h.0 in
        let others = ap (λ (l : List Payload). count_by in_flight l) (uncounted n t r ps lower) in
        omega (arith, down, up, others)
    go false z rest w = let others = rest w in omega (arith, others)
