-- The contexts of one row: what the laws of a store rest on.
use Rattle.std.proofs.Common.{◌≡◌, ℕ, zero, suc, ◌+◌, ◌-◌, ◌<◌, ◌≤◌, Bool, true, false, cond, not, ◌&&◌, eqb, ltb, ◌⊎◌, List, ◌++◌, length, get_or, is_some, Some, None, Option, sym, refl, ap, ◌∙◌, inl, inr, ⊎_elim, arith}
use Rattle.std.specs.List.{count_by, cons_option, filter_map, range_with_len}
use Rattle.std.specs.Option.{option_map}
use Rattle.std.proofs.lemmas.Bool.{cases_eq, cases_Bool, and_parts, and_from, and_cases, and_right, eqb-true, eqb-false, eq-eqb, ne_eqb, lt-ltb, ltb-true, cond-false, not_from_false, true≢false, false≢true}
use Rattle.stores.specs.declared.context.Context.{Context}
use Rattle.stores.specs.Contexts.{lookup, Once}
use Rattle.stores.proofs.Counts.{count_cons, count_none}
use Rattle.grid.specs.declared.place.Place.{Place}
use Rattle.grid.specs.declared.ue_row.UeRow.{UeRow}
use Rattle.grid.specs.Held.{place_at}
use Rattle.grid.specs.Grids.{context_of, context_at, other_in, others_in, is_free, contexts_of}

none_is : {X : Type 0} (o : Option X) → is_some o ≡ false → o ≡ None
none_is None e = refl
none_is (Some x) e = absurd (false≢true (sym e))

-- ---- one context before others

first_here : (u m : ℕ) (o : Option Place) (ys cs : List Context) → lookup (cons_option (option_map (context_of u m) o) ys ++ cs) u m ≡ cond (is_some (option_map (context_of u m) o)) (option_map (context_of u m) o) (lookup (ys ++ cs) u m)
first_here u m None ys cs = refl
first_here u m (Some p) ys cs = rw (eq-eqb u u refl, eq-eqb m m refl)

first_past : (u m : ℕ) (o : Option Place) (ys cs : List Context) (v j : ℕ) → (eqb u v && eqb m j) ≡ false → lookup (cons_option (option_map (context_of u m) o) ys ++ cs) v j ≡ lookup (ys ++ cs) v j
first_past u m None ys cs v j e = refl
first_past u m (Some p) ys cs v j e = rw e

first_long : (o : Option Context) (ys cs : List Context) → length (cons_option o ys ++ cs) ≡ cond (is_some o) 1 0 + length (ys ++ cs)
first_long None ys cs = omega arith
first_long (Some c) ys cs = omega arith

-- ---- the contexts of a row's sessions before others: of n sessions from a on

module _ (x : UeRow) where
  abbrev some_of : ℕ → ℕ → List Context
  some_of a n = filter_map (context_at x) (range_with_len a n)

  -- what none of the sessions answers is looked up in the others
  some_past : (a n : ℕ) (cs : List Context) (v j : ℕ) → ((m : ℕ) → a ≤ m → m < a + n → (eqb x.ue v && eqb m j) ≡ false) → lookup (some_of a n ++ cs) v j ≡ lookup cs v j
  some_past a zero cs v j h = refl
  some_past a (suc n) cs v j h =
      first_past x.ue a (place_at x.places a) (some_of (a + 1) n) cs v j (h a (omega arith) (omega arith))
      ∙ some_past (a + 1) n cs v j (λ m l b. h m (omega (arith, l)) (omega (arith, b)))

  some_own : (a n : ℕ) (cs : List Context) (j : ℕ) → a ≤ j → j < a + n → lookup (some_of a n ++ cs) x.ue j ≡ cond (is_some (context_at x j)) (context_at x j) (lookup cs x.ue j)
  some_own a zero cs j l b = absurd (omega (arith, l, b))
  some_own a (suc n) cs j l b = go (cases_eq j a) (some_own (a + 1) n cs j)
    where
      at_first : lookup (some_of a (suc n) ++ cs) x.ue a ≡ cond (is_some (context_at x a)) (context_at x a) (lookup cs x.ue a)
      at_first =
          first_here x.ue a (place_at x.places a) (some_of (a + 1) n) cs
          ∙ ap (λ (o : Option Context). cond (is_some (context_at x a)) (context_at x a) o)
          (some_past (a + 1) n cs x.ue a (λ m c d. and_right _ _ (ne_eqb m a (λ z. omega (arith, z, c)))))

      go : (j ≡ a) ⊎ (j ≡ a → ⊥) → (a + 1 ≤ j → j < a + 1 + n → lookup (some_of (a + 1) n ++ cs) x.ue j ≡ cond (is_some (context_at x j)) (context_at x j) (lookup cs x.ue j)) → lookup (some_of a (suc n) ++ cs) x.ue j ≡ cond (is_some (context_at x j)) (context_at x j) (lookup cs x.ue j)
      go (inl z) rest = rw z at_first
      go (inr z) rest =
          first_past x.ue a (place_at x.places a) (some_of (a + 1) n) cs x.ue j (and_right _ _ (ne_eqb a j (λ y. z (sym y))))
          ∙ rest (omega (arith, z, l)) (omega (arith, b))

  some_long : (a n : ℕ) (cs : List Context) → 0 < a → length (some_of a n ++ cs) ≡ count_by (other_in x 0) (range_with_len a n) + length cs
  some_long a zero cs l = omega arith
  some_long a (suc n) cs l =
      let e = some_long (a + 1) n cs (omega arith) in
      let f = first_long (context_at x a) (some_of (a + 1) n) cs in
      let z = ap (λ (t : Bool). not t && is_some (context_at x a)) (ne_eqb a 0 (λ y. omega (arith, y, l))) in
      let b = ap (λ (t : Bool). cond {A = ℕ} t 1 0) z in
      let d = count_cons (other_in x 0) a (range_with_len (a + 1) n) in
      omega (arith, e, f, b, d)

  some_once : (a n : ℕ) (cs : List Context) → Once cs → ((m : ℕ) → a ≤ m → m < a + n → lookup cs x.ue m ≡ None) → Once (some_of a n ++ cs)
  some_once a zero cs o h = o
  some_once a (suc n) cs o h =
      front (place_at x.places a) (some_once (a + 1) n cs o (λ m l b. h m (omega (arith, l)) (omega (arith, b))))
      (some_past (a + 1) n cs x.ue a (λ m l b. and_right _ _ (ne_eqb m a (λ z. omega (arith, z, l)))) ∙ h a (omega arith) (omega arith))
    where
      front : (p : Option Place) → Once (some_of (a + 1) n ++ cs) → lookup (some_of (a + 1) n ++ cs) x.ue a ≡ None → Once (cons_option (option_map (context_of x.ue a) p) (some_of (a + 1) n) ++ cs)
      front None o e = o
      front (Some p) o e = (e, o)

  some_none : (a n : ℕ) (cs : List Context) → ((j : ℕ) → context_at x j ≡ None) → some_of a n ++ cs ≡ cs
  some_none a zero cs h = refl
  some_none a (suc n) cs h = ap (λ (o : Option Context). cons_option o (some_of (a + 1) n) ++ cs) (h a) ∙ some_none (a + 1) n cs h

-- ---- the contexts of a row before others

pub row_past : (x : UeRow) (cs : List Context) (v j : ℕ) → ((m : ℕ) → (eqb x.ue v && eqb m j) ≡ false) → lookup (contexts_of x ++ cs) v j ≡ lookup cs v j
row_past x cs v j h = some_past x 1 15 cs v j (λ m l b. h m)

-- no session is out of bounds
pub out_none : (x : UeRow) (j : ℕ) → (ltb 0 j && ltb j 16) ≡ false → context_at x j ≡ None
out_none x j e = ap (option_map (context_of x.ue j)) (cond-false (ltb 0 j && ltb j 16) (get_or x.places (j - 1) None) None e)

or_none : (o : Option Context) → cond (is_some o) o None ≡ o
or_none None = refl
or_none (Some c) = refl

-- a session that the others do not have is answered by the row
pub row_own : (x : UeRow) (cs : List Context) (j : ℕ) → lookup cs x.ue j ≡ None → lookup (contexts_of x ++ cs) x.ue j ≡ context_at x j
row_own x cs j e = go (cases_Bool (ltb 0 j && ltb j 16))
  where
    past : (ltb 0 j && ltb j 16) ≡ false → (m : ℕ) → 1 ≤ m → m < 16 → (eqb x.ue x.ue && eqb m j) ≡ false
    past f m a b =
        and_right _ _
        (ne_eqb m j (λ z. true≢false (sym (and_from _ _ (lt-ltb 0 j (omega (arith, z, a))) (lt-ltb j 16 (omega (arith, z, b)))) ∙ f)))

    go : ((ltb 0 j && ltb j 16) ≡ true) ⊎ ((ltb 0 j && ltb j 16) ≡ false) → lookup (contexts_of x ++ cs) x.ue j ≡ context_at x j
    go (inl t) =
        let h = and_parts (ltb 0 j) (ltb j 16) t in
        let a = ltb-true 0 j h.0 in
        let b = ltb-true j 16 h.1 in
        some_own x 1 15 cs j (omega (arith, a)) (omega (arith, b))
        ∙ ap (λ (o : Option Context). cond (is_some (context_at x j)) (context_at x j) o) e
        ∙ or_none (context_at x j)
    go (inr f) = some_past x 1 15 cs x.ue j (past f) ∙ e ∙ sym (out_none x j f)

pub row_long : (x : UeRow) (cs : List Context) → length (contexts_of x ++ cs) ≡ others_in x 0 + length cs
row_long x cs = some_long x 1 15 cs (omega arith)

pub own_once : (x : UeRow) (cs : List Context) → Once cs → ((m : ℕ) → lookup cs x.ue m ≡ None) → Once (contexts_of x ++ cs)
own_once x cs o h = some_once x 1 15 cs o (λ m a b. h m)

-- ---- free rows

pub free_none : (x : UeRow) → is_free x ≡ true → (j : ℕ) → context_at x j ≡ None
free_none x e j = go (cases_Bool (ltb 0 j && ltb j 16))
  where
    go : ((ltb 0 j && ltb j 16) ≡ true) ⊎ ((ltb 0 j && ltb j 16) ≡ false) → context_at x j ≡ None
    go (inl t) =
        let h = and_parts (ltb 0 j) (ltb j 16) t in
        let a = ltb-true 0 j h.0 in
        let b = ltb-true j 16 h.1 in
        let f = count_none (other_in x 0) 1 15 (eqb-true (others_in x 0) 0 e) j (omega (arith, a)) (omega (arith, b)) in
        none_is (context_at x j) (⊎_elim (λ z. absurd (true≢false (sym (not_from_false (eqb j 0) (ne_eqb j 0 (λ y. omega (arith, a, y)))) ∙ z))) (λ z. z) (and_cases (not (eqb j 0)) (is_some (context_at x j)) f))
    go (inr f) = out_none x j f

pub free_row : (x : UeRow) (cs : List Context) → is_free x ≡ true → contexts_of x ++ cs ≡ cs
free_row x cs e = some_none x 1 15 cs (free_none x e)

pub used_row : (x : UeRow) → is_free x ≡ false → 0 < others_in x 0
used_row x e = let h = eqb-false (others_in x 0) 0 e in omega (arith, h)
