-- The first element that passes a test, and sums, in a list that one element was written to.
use Rattle.std.proofs.Common.{◌≡◌, ℕ, zero, suc, ◌+◌, ◌<◌, Bool, true, false, cond, List, [], ◌∷◌, length, get_or, set, is_some, Some, None, Option, unwrap_or, sym, refl, ap, ◌∙◌, zero-lt-suc, arith}
use Rattle.std.proofs.lemmas.Bool.{false≢true}
use Rattle.std.specs.List.{find}
use Rattle.tables.specs.Lists.{sum_of}

module _ {R : Type 0} where
  pub none_passes : (t : R → Bool) (xs : List R) → ((j : ℕ) (d : R) → j < length xs → t (get_or xs j d) ≡ false) → find t xs ≡ None
  none_passes t [] h = refl
  none_passes t (x ∷ xs) h = rw (h 0 x (zero-lt-suc (length xs))) (none_passes t xs (λ j d l. h (suc j) d (omega arith)))

  pub first_passes : (t : R → Bool) (xs : List R) (i : ℕ) (d : R) → i < length xs → t (get_or xs i d) ≡ true → ((j : ℕ) (e : R) → j < i → t (get_or xs j e) ≡ false) → find t xs ≡ Some (get_or xs i d)
  first_passes t [] i d l p h = absurd (omega (arith, l))
  first_passes t (x ∷ xs) zero d l p h = rw p
  first_passes t (x ∷ xs) (suc i) d l p h =
      rw (h 0 x (zero-lt-suc i)) (first_passes t xs i d (omega arith) p (λ j e m. h (suc j) e (omega arith)))

  -- an element that passes, behind none that does
  pub set_passing : (t : R → Bool) (xs : List R) (i : ℕ) (x : R) → i < length xs → t x ≡ true → ((j : ℕ) (e : R) → j < i → t (get_or xs j e) ≡ false) → find t (set xs i x) ≡ Some x
  set_passing t [] i x l p h = absurd (omega (arith, l))
  set_passing t (y ∷ xs) zero x l p h = rw p
  set_passing t (y ∷ xs) (suc i) x l p h =
      rw (h 0 y (zero-lt-suc i)) (set_passing t xs i x (omega arith) p (λ j e m. h (suc j) e (omega arith)))

  -- one that does not pass, in the place of the only one that did
  pub set_only : (t : R → Bool) (xs : List R) (i : ℕ) (x : R) → t x ≡ false → ((j : ℕ) (d : R) → j < length xs → t (get_or xs j d) ≡ true → j ≡ i) → find t (set xs i x) ≡ None
  set_only t [] i x p h = refl
  set_only t (y ∷ xs) zero x p h = rw p (none_passes t xs (λ j d l. fails j d l (t (get_or xs j d)) refl))
    where
      fails : (j : ℕ) (d : R) → j < length xs → (b : Bool) → t (get_or xs j d) ≡ b → b ≡ false
      fails j d l b e = let z = h (suc j) d (omega arith) in grind arith
  set_only t (y ∷ xs) (suc i) x p h = rw (first (t y) refl) (set_only t xs i x p (λ j d l e. let z = h (suc j) d (omega arith) e in omega (arith, z)))
    where
      first : (b : Bool) → t y ≡ b → b ≡ false
      first b e = let z = h 0 y (zero-lt-suc (length xs)) in grind arith

  -- what passes first is somewhere
  pub passes_at : (t : R → Bool) (xs : List R) (x : R) → find t xs ≡ Some x → (i : ℕ) × ((i < length xs) × (((d : R) → get_or xs i d ≡ x) × (t x ≡ true)))
  passes_at t [] x e = absurd (false≢true (ap (λ (o : Option R). is_some o) e))
  passes_at t (y ∷ xs) x e = go (t y) refl (passes_at t xs x) e
    where
      go : (b : Bool) → t y ≡ b → (find t xs ≡ Some x → (i : ℕ) × ((i < length xs) × (((d : R) → get_or xs i d ≡ x) × (t x ≡ true)))) → cond b (Some y) (find t xs) ≡ Some x → (i : ℕ) × ((i < length (y ∷ xs)) × (((d : R) → get_or (y ∷ xs) i d ≡ x) × (t x ≡ true)))
      go true p rest q = let s = ap (λ (o : Option R). unwrap_or o y) q in (0, (zero-lt-suc (length xs), ((λ d. s), (ap t (sym s) ∙ p))))
      go false p rest q = let r = rest q in (suc r.0, (omega (arith, r.1.0), r.1.1))

  pub sum_set : (f : R → ℕ) (xs : List R) (i : ℕ) (d x : R) → i < length xs → sum_of f (set xs i x) + f (get_or xs i d) ≡ sum_of f xs + f x
  sum_set f [] i d x l = absurd (omega (arith, l))
  sum_set f (y ∷ xs) zero d x l = omega arith
  sum_set f (y ∷ xs) (suc i) d x l = let e = sum_set f xs i d x (omega arith) in omega (arith, e)
