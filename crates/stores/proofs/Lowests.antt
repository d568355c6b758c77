-- The lowest session at which a test passes is the first one that is found from 1 on.
use Rattle.std.proofs.Common.{◌≡◌, ℕ, zero, suc, ◌+◌, ◌<◌, ◌≤◌, Bool, true, false, cond, ◌⊎◌, List, [], ◌∷◌, Some, None, Option, MatchOption, sym, refl, ap, ◌∙◌, subst, inl, inr, arith}
use Rattle.std.specs.List.{find, range_with_len}
use Rattle.std.proofs.lemmas.Bool.{cases_eq, cases_order, true≢false}
use Rattle.stores.specs.Contexts.{sessions, Lowest}

-- what is found of n numbers from a on
abbrev Found : (ℕ → Bool) → ℕ → ℕ → Option ℕ → Type 0
Found t a n r = MatchOption r ((j : ℕ) → a ≤ j → j < a + n → t j ≡ false) (λ m. (a ≤ m) × (m < a + n) × (t m ≡ true) × ((j : ℕ) → a ≤ j → j < m → t j ≡ false))

find_found : (t : ℕ → Bool) (a n : ℕ) → Found t a n (find t (range_with_len a n))
find_found t a zero = λ j l b. absurd (omega (arith, l, b))
find_found t a (suc n) = go (t a) refl (find t (range_with_len (a + 1) n)) (find_found t (a + 1) n)
  where
    below : t a ≡ false → (j : ℕ) → a ≤ j → (a + 1 ≤ j → t j ≡ false) → t j ≡ false
    below e j l h = at (cases_eq j a)
      where
        at : (j ≡ a) ⊎ (j ≡ a → ⊥) → t j ≡ false
        at (inl z) = rw z e
        at (inr z) = h (omega (arith, z, l))

    go : (b : Bool) → t a ≡ b → (r : Option ℕ) → Found t (a + 1) n r → Found t a (suc n) (cond b (Some a) r)
    go true e r h = (omega arith, omega arith, e, λ j l b. absurd (omega (arith, l, b)))
    go false e None h = λ j l b. below e j l (λ y. h j y (omega (arith, b)))
    go false e (Some m) (x, y, z, w) = (omega (arith, x), omega (arith, y), z, λ j l b. below e j l (λ v. w j v b))

find_lowest : (t : ℕ → Bool) → Lowest t (find t sessions)
find_lowest t = go (find t sessions) (find_found t 1 15)
  where
    go : (r : Option ℕ) → Found t 1 15 r → Lowest t r
    go None h = λ j a b. h j (omega (arith, a)) (omega (arith, b))
    go (Some m) (x, y, z, w) = (omega (arith, x), omega (arith, y), z, λ j a b. w j (omega (arith, a)) b)

one_lowest : (t : ℕ → Bool) (r s : Option ℕ) → Lowest t r → Lowest t s → r ≡ s
one_lowest t None None h g = refl
one_lowest t None (Some n) h (a, b, e, l) = absurd (true≢false (sym e ∙ h n a b))
one_lowest t (Some m) None (a, b, e, l) h = absurd (true≢false (sym e ∙ h m a b))
one_lowest t (Some m) (Some n) (a, b, e, l) (c, d, f, k) = ap (λ i. Some i) (at (cases_order m n))
  where
    at : (m ≡ n) ⊎ ((m < n) ⊎ (n < m)) → m ≡ n
    at (inl z) = z
    at (inr (inl z)) = absurd (true≢false (sym e ∙ k m a z))
    at (inr (inr z)) = absurd (true≢false (sym f ∙ l n c z))

pub lowest_is : (t : ℕ → Bool) (r : Option ℕ) → Lowest t r → r ≡ find t sessions
lowest_is t r h = one_lowest t r (find t sessions) h (find_lowest t)

pub lowest_of : (t : ℕ → Bool) (r : Option ℕ) → r ≡ find t sessions → Lowest t r
lowest_of t r e = subst (Lowest t) (sym e) (find_lowest t)

-- tests that agree find the same
pub find_same : (s t : ℕ → Bool) (xs : List ℕ) → ((j : ℕ) → s j ≡ t j) → find s xs ≡ find t xs
find_same s t [] h = refl
find_same s t (x ∷ xs) h = rw (h x, find_same s t xs h)
