-- Some slot is free exactly while fewer flights stand than there are slots.
use Rattle.std.proofs.Common.{◌≡◌, ℕ, ◌+◌, ◌<◌, ◌≤◌, Bool, true, false, cond, ltb, List, [], ◌∷◌, length, is_some, Option, Some, None, position, nat_lt, IfSome, refl, sym, ◌∙◌, ap, arith}
use Rattle.std.specs.List.{count_by, position_or_len}
use Rattle.std.proofs.lemmas.List.Quantifiers.{position-Some}
use Rattle.std.proofs.lemmas.Bool.{false≢true, lt-ltb, ltb-true, ltb-false, le-ltb}
use Rattle.std.proofs.lemmas.List.Sums.{count_by-le-length, sum_by-cons}
use Rattle.flights.specs.declared.flight.Flight.{Flight}
use Rattle.flights.specs.Slots.{at, is_free}

same_test : (a b c d : ℕ) → (a < b → c < d) → (b ≤ a → d ≤ c) → ltb a b ≡ ltb c d
same_test a b c d f g = go (ltb a b) refl
  where
    go : (t : Bool) → ltb a b ≡ t → ltb a b ≡ ltb c d
    go true e = e ∙ sym (lt-ltb c d (f (ltb-true a b e)))
    go false e = e ∙ sym (le-ltb c d (g (ltb-false a b e)))

first : (xs : List (Option Flight)) → ltb (position_or_len is_free xs) (length xs) ≡ ltb (count_by is_some xs) (length xs)
first [] = refl
first (None ∷ xs) =
    same_test (position_or_len is_free (None ∷ xs)) (length (None ∷ xs)) (count_by is_some (None ∷ xs)) (length (None ∷ xs)) (λ l. omega (arith, count_by-le-length is_some xs)) (λ l. omega arith)
first (Some f ∷ xs) =
    let h = first xs in
    let p = position_or_len is_free xs in
    let n = count_by is_some xs in
    let counts : count_by is_some (Some f ∷ xs) ≡ 1 + n = sum_by-cons (λ x. cond (is_some x) 1 0) (Some f) xs in
    let places : position_or_len is_free (Some f ∷ xs) ≡ 1 + p = refl in
    same_test (position_or_len is_free (Some f ∷ xs)) (length (Some f ∷ xs)) (count_by is_some (Some f ∷ xs)) (length (Some f ∷ xs)) (λ l. omega (arith, ltb-true n (length xs) (sym h ∙ lt-ltb p (length xs) (omega arith)))) (λ l. omega (arith, ltb-false n (length xs) (sym h ∙ le-ltb p (length xs) (omega arith))))

found : (t : Bool) (k : ℕ) → is_some (cond t (Some k) None) ≡ t
found true k = refl
found false k = refl

pub spare : (xs : List (Option Flight)) (r : Option ℕ) → length xs ≡ 16 → r ≡ position is_free xs → is_some r ≡ nat_lt (count_by is_some xs) 16
spare xs r long e = ap is_some e ∙ found _ _ ∙ first xs ∙ ap (nat_lt (count_by is_some xs)) long

none_there : (o : Option Flight) → is_free o ≡ true → o ≡ None
none_there None e = refl
none_there (Some f) e = absurd (false≢true e)

pub free : (xs : List (Option Flight)) (r : Option ℕ) → length xs ≡ 16 → r ≡ position is_free xs → IfSome r (λ k. (k < 16) × (at xs k ≡ None))
free xs None long e = tt
free xs (Some k) long e =
    let h = position-Some is_free xs k None (sym e) in
    (omega (arith, h.0), none_there _ h.1)
