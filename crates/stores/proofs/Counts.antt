-- How many of n numbers from a on pass a test.
use Rattle.std.proofs.Common.{◌≡◌, ℕ, zero, suc, ◌+◌, ◌<◌, ◌≤◌, Bool, true, false, cond, ◌⊎◌, List, ◌∷◌, sym, refl, ap, ◌∙◌, inl, inr, arith}
use Rattle.std.specs.List.{count_by, range_with_len}
use Rattle.std.proofs.lemmas.Bool.{cases_eq}
use Rattle.std.proofs.lemmas.List.Sums.{sum_by-cons}

-- one more is counted, or not
pub count_cons : {X : Type 0} (t : X → Bool) (x : X) (xs : List X) → count_by t (x ∷ xs) ≡ cond (t x) 1 0 + count_by t xs
count_cons t x xs = sum_by-cons (λ y. cond (t y) 1 0) x xs

-- what is counted as none passes nowhere
pub count_none : (t : ℕ → Bool) (a n : ℕ) → count_by t (range_with_len a n) ≡ 0 → (j : ℕ) → a ≤ j → j < a + n → t j ≡ false
count_none t a zero e j l h = absurd (omega (arith, l, h))
count_none t a (suc n) e j l h =
    let m = sym (count_cons t a (range_with_len (a + 1) n)) ∙ e in
    go (cases_eq j a) m (count_none t (a + 1) n (omega (arith, m)) j)
  where
    bit : (b : Bool) (m : ℕ) → cond b 1 0 + m ≡ 0 → b ≡ false
    bit true m z = absurd (omega (arith, z))
    bit false m z = refl

    go : (j ≡ a) ⊎ (j ≡ a → ⊥) → cond (t a) 1 0 + count_by t (range_with_len (a + 1) n) ≡ 0 → (a + 1 ≤ j → j < a + 1 + n → t j ≡ false) → t j ≡ false
    go (inl z) m rest = ap t z ∙ bit (t a) (count_by t (range_with_len (a + 1) n)) m
    go (inr z) m rest = rest (omega (arith, z, l)) (omega (arith, h))

-- tests that agree at the numbers count the same
pub count_same : (s t : ℕ → Bool) (a n : ℕ) → ((j : ℕ) → a ≤ j → j < a + n → s j ≡ t j) → count_by s (range_with_len a n) ≡ count_by t (range_with_len a n)
count_same s t a zero h = refl
count_same s t a (suc n) h =
    let e = count_same s t (a + 1) n (λ j l b. h j (omega (arith, l)) (omega (arith, b))) in
    let x = count_cons s a (range_with_len (a + 1) n) in
    let y = count_cons t a (range_with_len (a + 1) n) in
    let z = ap (λ (b : Bool). cond {A = ℕ} b 1 0) (h a (omega arith) (omega arith)) in
    omega (arith, e, x, y, z)

-- tests that agree but at k
pub count_change : (s t : ℕ → Bool) (a n k : ℕ) → a ≤ k → k < a + n → ((j : ℕ) → (j ≡ k → ⊥) → s j ≡ t j) → count_by s (range_with_len a n) + cond (t k) 1 0 ≡ count_by t (range_with_len a n) + cond (s k) 1 0
count_change s t a zero k l b h = absurd (omega (arith, l, b))
count_change s t a (suc n) k l b h = go (cases_eq k a) (count_change s t (a + 1) n k)
  where
    agree : (j : ℕ) → s j ≡ t j → cond {A = ℕ} (s j) 1 0 ≡ cond (t j) 1 0
    agree j e = ap (λ (b : Bool). cond {A = ℕ} b 1 0) e

    x : count_by s (range_with_len a (suc n)) ≡ cond (s a) 1 0 + count_by s (range_with_len (a + 1) n)
    x = count_cons s a (range_with_len (a + 1) n)

    y : count_by t (range_with_len a (suc n)) ≡ cond (t a) 1 0 + count_by t (range_with_len (a + 1) n)
    y = count_cons t a (range_with_len (a + 1) n)

    go : (k ≡ a) ⊎ (k ≡ a → ⊥) → (a + 1 ≤ k → k < a + 1 + n → ((j : ℕ) → (j ≡ k → ⊥) → s j ≡ t j) → count_by s (range_with_len (a + 1) n) + cond (t k) 1 0 ≡ count_by t (range_with_len (a + 1) n) + cond (s k) 1 0) → count_by s (range_with_len a (suc n)) + cond (t k) 1 0 ≡ count_by t (range_with_len a (suc n)) + cond (s k) 1 0
    go (inl z) rest =
        let e = count_same s t (a + 1) n (λ j c d. h j (λ v. omega (arith, v, z, c))) in
        rw z (omega (arith, e, x, y))
    go (inr z) rest =
        let e = rest (omega (arith, z, l)) (omega (arith, b)) h in
        let d = agree a (h a (λ v. z (sym v))) in
        omega (arith, e, d, x, y)
