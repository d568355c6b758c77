-- What writing a slot of flights and a slot of the pool leaves.
use Rattle.std.proofs.Common.{◌≡◌, ℕ, zero, suc, ◌+◌, ◌-◌, ◌*◌, ◌<◌, ◌≤◌, Bool, true, false, cond, ◌⊎◌, List, [], ◌∷◌, ◌++◌, length, set, take, drop, Some, None, Option, is_some, sym, refl, ap, ◌∙◌, subst, inl, inr, arith, length-set, length-append}
use Rattle.std.specs.List.{list_any, count_by}
use Rattle.std.proofs.lemmas.Bool.{false≢true, or_cases, cases_eq, cases_lt, cases_order}
use Rattle.std.proofs.lemmas.List.{get_or-set_same, get_or-set_other, get_or_past, set_past, take-take, drop-drop, drop-take, take_at, drop_at, length-take-le, append_assoc}
use Rattle.std.proofs.lemmas.List.Sums.{sum_by-set}
use Rattle.flights.specs.declared.flight.Flight.{Flight}
use Rattle.flights.specs.declared.flight.Mark.{Mark}
use Rattle.flights.specs.Slots.{at, marked}
use Rattle.nas.specs.Returns.{overwritten}
use Rattle.runs.specs.Models.{slot_octets}

abbrev pub Flights : Type 0
Flights = List (Option Flight)

-- ---- slots of flights

pub within : (fs : Flights) (k : ℕ) (f : Flight) → at fs k ≡ Some f → k < length fs
within fs k f e = go (cases_lt k (length fs))
  where
    go : (k < length fs) ⊎ (length fs ≤ k) → k < length fs
    go (inl l) = l
    go (inr l) = absurd (false≢true (ap (λ (o : Option Flight). is_some o) (sym (get_or_past fs k None l) ∙ e)))

-- a flight after a write is what was written, or it was there
pub written : (fs : Flights) (k : ℕ) (o : Option Flight) (j : ℕ) (f : Flight) → at (set fs k o) j ≡ Some f → ((j ≡ k) × (o ≡ Some f)) ⊎ ((j ≡ k → ⊥) × (at fs j ≡ Some f))
written fs k o j f e = go (cases_eq j k)
  where
    here : j ≡ k → k < length fs
    here z = rw length-set at (within (set fs k o) k f (subst (λ (i : ℕ). at (set fs k o) i ≡ Some f) z e))

    go : (j ≡ k) ⊎ (j ≡ k → ⊥) → ((j ≡ k) × (o ≡ Some f)) ⊎ ((j ≡ k → ⊥) × (at fs j ≡ Some f))
    go (inl z) = inl (z, sym (get_or-set_same fs k o None (here z)) ∙ subst (λ (i : ℕ). at (set fs k o) i ≡ Some f) z e)
    go (inr z) = inr (z, sym (get_or-set_other fs k j o None z) ∙ e)

-- another slot has what it had
pub beside : (fs : Flights) (k : ℕ) (o : Option Flight) (j : ℕ) → (j ≡ k → ⊥) → at (set fs k o) j ≡ at fs j
beside fs k o j n = get_or-set_other fs k j o None n

-- a slot that has the flight that passes
pub slot_of : (test : Option Flight → Bool) → test None ≡ false → (fs : Flights) → list_any test fs ≡ true → (k : ℕ) × (f : Flight) × (at fs k ≡ Some f) × (test (Some f) ≡ true)
slot_of test none [] e = absurd (false≢true e)
slot_of test none (o ∷ fs) e = go (slot_of test none fs) (or_cases (test o) (list_any test fs) e)
  where
    first : (o : Option Flight) → test o ≡ true → (f : Flight) × (o ≡ Some f) × (test (Some f) ≡ true)
    first None z = absurd (false≢true (sym none ∙ z))
    first (Some f) z = (f, refl, z)

    go : (list_any test fs ≡ true → (k : ℕ) × (f : Flight) × (at fs k ≡ Some f) × (test (Some f) ≡ true)) → (test o ≡ true) ⊎ (list_any test fs ≡ true) → (k : ℕ) × (f : Flight) × (at (o ∷ fs) k ≡ Some f) × (test (Some f) ≡ true)
    go rest (inl z) = let w = first o z in (zero, w.0, w.1, w.2)
    go rest (inr z) = let w = rest z in (suc w.0, w.1, w.2, w.3)

-- ---- how many flights there are

-- what a write adds, and what it takes away
pub count_written : (fs : Flights) (k : ℕ) (o : Option Flight) → k < length fs → count_by is_some (set fs k o) + cond (is_some (at fs k)) 1 0 ≡ count_by is_some fs + cond (is_some o) 1 0
count_written fs k o l = sum_by-set (λ (x : Option Flight). cond {A = ℕ} (is_some x) 1 0) fs k o None l

-- another mark changes nothing of it
pub count_marked : (mark : Mark) (fs : Flights) (k : ℕ) → count_by is_some (set fs k (marked mark (at fs k))) ≡ count_by is_some fs
count_marked mark fs k = go (cases_lt k (length fs))
  where
    alike : (o : Option Flight) → ◌≡◌ {A = ℕ} (cond (is_some (marked mark o)) 1 0) (cond (is_some o) 1 0)
    alike None = refl
    alike (Some f) = refl

    go : (k < length fs) ⊎ (length fs ≤ k) → count_by is_some (set fs k (marked mark (at fs k))) ≡ count_by is_some fs
    go (inl l) = let c = count_written fs k (marked mark (at fs k)) l in let s = alike (at fs k) in omega (arith, c, s)
    go (inr l) = ap (λ (l : Flights). count_by is_some l) (set_past fs k (marked mark (at fs k)) l)

-- ---- slots of the pool

below : (xs ys : List ℕ) (a b n : ℕ) → take a ys ≡ take a xs → b + n ≤ a → take n (drop b ys) ≡ take n (drop b xs)
below xs ys a b n e h =
    sym (drop-take b n ys) ∙ ap (drop b) (sym (take-take (b + n) a ys h) ∙ ap (take (b + n)) e ∙ take-take (b + n) a xs h) ∙ drop-take b n xs

above : (xs ys : List ℕ) (a b n : ℕ) → drop a ys ≡ drop a xs → a ≤ b → take n (drop b ys) ≡ take n (drop b xs)
above xs ys a b n e h =
    let s : a + (b - a) ≡ b = omega arith in
    ap (λ (i : ℕ). take n (drop i ys)) (sym s) ∙ ap (take n) (sym (drop-drop (b - a) a ys) ∙ ap (drop (b - a)) e ∙ drop-drop (b - a) a xs) ∙ ap (λ (i : ℕ). take n (drop i xs)) s

module _ (xs : List ℕ) (i : ℕ) (ys : List ℕ) (fits : i ≤ length xs) where
  front : length (take i xs) ≡ i
  front = length-take-le i xs fits

  take_overwritten : take i (overwritten xs i ys) ≡ take i xs
  take_overwritten = take_at (take i xs) (ys ++ drop (i + length ys) xs) i front

  drop_overwritten : drop (i + length ys) (overwritten xs i ys) ≡ drop (i + length ys) xs
  drop_overwritten =
      ap (drop (i + length ys)) (sym (append_assoc (take i xs) ys (drop (i + length ys) xs)))
      ∙ drop_at (take i xs ++ ys) (drop (i + length ys) xs) (i + length ys) (length-append (take i xs) ys ∙ ap (λ (k : ℕ). k + length ys) front)

  read_overwritten : take (length ys) (drop i (overwritten xs i ys)) ≡ ys
  read_overwritten =
      ap (take (length ys)) (drop_at (take i xs) (ys ++ drop (i + length ys) xs) i front) ∙ take_at ys (drop (i + length ys) xs) (length ys) refl

-- the slot that was written has what was written
pub octets_here : (pool : List ℕ) (k : ℕ) (ys : List ℕ) → length pool ≡ 32768 → k < 16 → slot_octets (overwritten pool (2048 * k) ys) k (length ys) ≡ ys
octets_here pool k ys p l = read_overwritten pool (2048 * k) ys (omega (arith, p, l))

-- another slot has what it had
pub octets_beside : (pool : List ℕ) (k : ℕ) (ys : List ℕ) (j n : ℕ) → length pool ≡ 32768 → k < 16 → length ys ≤ 2048 → n ≤ 2048 → (j ≡ k → ⊥) → slot_octets (overwritten pool (2048 * k) ys) j n ≡ slot_octets pool j n
octets_beside pool k ys j n p l y h d = go (cases_order j k)
  where
    fits : 2048 * k ≤ length pool
    fits = omega (arith, p, l)

    go : (j ≡ k) ⊎ ((j < k) ⊎ (k < j)) → slot_octets (overwritten pool (2048 * k) ys) j n ≡ slot_octets pool j n
    go (inl z) = absurd (d z)
    go (inr (inl z)) = below pool (overwritten pool (2048 * k) ys) (2048 * k) (2048 * j) n (take_overwritten pool (2048 * k) ys fits) (omega (arith, z, h))
    go (inr (inr z)) = above pool (overwritten pool (2048 * k) ys) (2048 * k + length ys) (2048 * j) n (drop_overwritten pool (2048 * k) ys fits) (omega (arith, z, y))
