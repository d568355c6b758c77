-- What a table's calls do to its rows, told by tests: the first row that passes, and how many are in use.
use Rattle.std.proofs.Common.{◌≡◌, ℕ, zero, suc, ◌+◌, ◌<◌, ◌≤◌, Bool, true, false, cond, List, [], ◌∷◌, length, get_or, set, is_some, Some, None, sym, refl, ap, ◌∙◌, inl, inr, zero-lt-suc, arith}
use Rattle.std.proofs.lemmas.Bool.{true≢false}
use Rattle.std.proofs.lemmas.List.Folds.{find_past}
use Rattle.std.specs.List.{find}
use Rattle.tables.specs.Lists.{sum_of}
use Rattle.tables.specs.Rows.{Held, Absent, First, Apart, AllFree, NoneFree, Target}
use Rattle.tables.specs.Tables.{Takes, Frees}
use Rattle.tables.proofs.Lists.{none_passes, first_passes, set_passing, set_only, sum_set}

module _ {R : Type 0} (free : R → Bool) where
  -- 1 for a row in use, 0 for a free one
  abbrev pub bit : R → ℕ
  bit x = cond (free x) 0 1

  -- how many rows are in use
  abbrev pub used : List R → ℕ
  used xs = sum_of bit xs

  bit_most : (x : R) → bit x ≤ 1
  bit_most x = grind arith

  pub none_used : (xs : List R) → AllFree free xs → used xs ≡ 0
  none_used [] h = refl
  none_used (x ∷ xs) h =
      let e = none_used xs (λ j d l. h (suc j) d (omega arith)) in
      rw (h 0 x (zero-lt-suc (length xs))) (omega (arith, e))

  pub all_used : (xs : List R) → NoneFree free xs → used xs ≡ length xs
  all_used [] h = refl
  all_used (x ∷ xs) h =
      let e = all_used xs (λ j d l. h (suc j) d (omega arith)) in
      rw (h 0 x (zero-lt-suc (length xs))) (omega (arith, e))

  pub used_most : (xs : List R) → used xs ≤ length xs
  used_most [] = omega arith
  used_most (x ∷ xs) = let h = used_most xs in let b = bit_most x in omega (arith, h, b)

  -- a free row is not counted
  pub some_free : (xs : List R) (i : ℕ) (d : R) → i < length xs → free (get_or xs i d) ≡ true → used xs < length xs
  some_free [] i d l f = absurd (omega (arith, l))
  some_free (x ∷ xs) zero d l f = let h = used_most xs in rw f (omega (arith, h))
  some_free (x ∷ xs) (suc i) d l f =
      let h = some_free xs i d (omega arith) f in
      let b = bit_most x in
      omega (arith, h, b)

  -- a row in use is counted
  pub some_used : (xs : List R) (i : ℕ) (d : R) → i < length xs → free (get_or xs i d) ≡ false → 0 < used xs
  some_used [] i d l f = absurd (omega (arith, l))
  some_used (x ∷ xs) zero d l f = rw f (omega arith)
  some_used (x ∷ xs) (suc i) d l f = let h = some_used xs i d (omega arith) f in omega (arith, h)

  -- where none is counted, every row is free
  pub zero_used : (xs : List R) → used xs ≡ 0 → AllFree free xs
  zero_used xs e j d l = let n = some_used xs j d l in grind arith

module _ {R K : Type 0} (free : R → Bool) (named : R → K) where
  -- the test passes exactly the rows in use under k
  pub record Tests (t : R → Bool) (k : K) : Type 0 where
    pub means : (x : R) → t x ≡ true → Held free named k x
    pub shows : (x : R) → Held free named k x → t x ≡ true

  fails : (t : R → Bool) (k : K) (x : R) → Tests t k → (Held free named k x → ⊥) → t x ≡ false
  fails t k x s h = let m = s.means x in grind arith

  pub absent_none : (t : R → Bool) (k : K) (xs : List R) → Tests t k → Absent free named k xs → find t xs ≡ None
  absent_none t k xs s h = none_passes t xs (λ j d l. fails t k (get_or xs j d) s (h j d l))

  pub first_some : (t : R → Bool) (k : K) (xs : List R) (i : ℕ) (d : R) → Tests t k → First free named k xs i → find t xs ≡ Some (get_or xs i d)
  first_some t k xs i d s f =
      first_passes t xs i d f.within (s.shows (get_or xs i d) (f.used d, f.key d)) (λ j e l. fails t k (get_or xs j e) s (f.before j e l))

  -- the row that was written is found under its key
  pub takes_here : (t : R → Bool) (x : R) (xs ys : List R) (i : ℕ) → Tests t (named x) → free x ≡ false → Takes free named x xs ys i → find t ys ≡ Some x
  takes_here t x xs ys i s u h = ap (find t) h.after ∙ go h.place
    where
      go : Target free named (named x) xs i → find t (set xs i x) ≡ Some x
      go (inl f) = set_passing t xs i x f.within (s.shows x (u, refl)) (λ j e l. fails t (named x) (get_or xs j e) s (f.before j e l))
      go (inr (f, a)) =
          set_passing t xs i x f.within (s.shows x (u, refl))
          (λ j e l. let w = f.within in fails t (named x) (get_or xs j e) s (a j e (omega (arith, w, l))))

  -- what is found under another key stays
  pub takes_other : (t : R → Bool) (k : K) (x : R) (xs ys : List R) (i : ℕ) → Tests t k → (named x ≡ k → ⊥) → Takes free named x xs ys i → find t ys ≡ find t xs
  takes_other t k x xs ys i s n h =
      ap (find t) h.after ∙ find_past t xs i x x (go h.place) (fails t k x s (λ p. n p.1))
    where
      go : Target free named (named x) xs i → t (get_or xs i x) ≡ false
      go (inl f) = fails t k (get_or xs i x) s (λ p. n (sym (f.key x) ∙ p.1))
      go (inr (f, a)) = fails t k (get_or xs i x) s (λ p. true≢false (sym (f.here x) ∙ p.0))

  -- one row more is in use, unless the key was held
  pub takes_size : (t : R → Bool) (x : R) (xs ys : List R) (i : ℕ) → Tests t (named x) → free x ≡ false → Takes free named x xs ys i → used free ys ≡ used free xs + cond (is_some (find t xs)) 0 1
  takes_size t x xs ys i s u h = ap (used free) h.after ∙ go h.place
    where
      go : Target free named (named x) xs i → used free (set xs i x) ≡ used free xs + cond (is_some (find t xs)) 0 1
      go (inl f) =
          let e = sum_set (bit free) xs i x x f.within in
          let z = rw (f.used x, u) at e in
          rw (first_some t (named x) xs i x s f) (omega (arith, z))
      go (inr (f, a)) =
          let e = sum_set (bit free) xs i x x f.within in
          let z = rw (f.here x, u) at e in
          rw (absent_none t (named x) xs s a) (omega (arith, z))

  -- nothing is found under the key of a row that was freed
  pub frees_here : (t : R → Bool) (k : K) (xs ys : List R) (i : ℕ) (x : R) → Tests t k → Apart free named xs → Frees free named k xs ys i x → find t ys ≡ None
  frees_here t k xs ys i x s h f =
      ap (find t) f.after
      ∙ set_only t xs i x (fails t k x s (λ p. true≢false (sym f.freed ∙ p.0)))
      (λ j d l e.
      let p = s.means (get_or xs j d) e in
      h j i d l f.first.within p.0 (f.first.used d) (p.1 ∙ sym (f.first.key d)))

  pub frees_other : (t : R → Bool) (k j : K) (xs ys : List R) (i : ℕ) (x : R) → Tests t j → (k ≡ j → ⊥) → Frees free named k xs ys i x → find t ys ≡ find t xs
  frees_other t k j xs ys i x s n f =
      ap (find t) f.after
      ∙ find_past t xs i x x (fails t j (get_or xs i x) s (λ p. n (sym (f.first.key x) ∙ p.1)))
      (fails t j x s (λ p. true≢false (sym f.freed ∙ p.0)))

  pub frees_size : (k : K) (xs ys : List R) (i : ℕ) (x : R) → Frees free named k xs ys i x → used free ys + 1 ≡ used free xs
  frees_size k xs ys i x f =
      let e = sum_set (bit free) xs i x x f.first.within in
      let z = rw (f.first.used x, f.freed) at e in
      ap (λ (l : List R). used free l + 1) f.after ∙ omega (arith, z)
