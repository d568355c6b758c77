-- A place of a row is written.
use Rattle.std.proofs.Common.{◌≡◌, ℕ, ◌+◌, ◌-◌, ◌<◌, ◌≤◌, Bool, true, false, cond, not, ◌&&◌, eqb, ltb, ◌⊎◌, List, length, get_or, set, is_some, Some, None, Option, sym, refl, ap, ◌∙◌, inl, inr, arith}
use mir.Val.{bool_byte}
use Rattle.std.specs.Option.{option_map}
use Rattle.std.proofs.lemmas.List.Sums.{count_by-le-length}
use Rattle.std.proofs.lemmas.List.{get_or-set_same, get_or-set_other}
use Rattle.std.proofs.lemmas.Bool.{cases_eq, cases_Bool, and_parts, and_from, eqb-true, eq-eqb, ne_eqb, lt-ltb, ltb-true, cond-true, cond-false, not_from_false, true≢false}
use Rattle.stores.specs.declared.context.Context.{Context}
use Rattle.stores.specs.Contexts.{sessions}
use Rattle.grid.specs.declared.place.Place.{Place}
use Rattle.grid.specs.declared.ue_row.UeRow.{UeRow}
use Rattle.grid.specs.Places.{out_none}
use Rattle.grid.specs.Held.{place_at, held_count}
use Rattle.grid.specs.Grids.{context_of, context_at, other_in, others_in, Writes}
use Rattle.stores.proofs.Counts.{count_change, count_same}

some_mapped : {X Y : Type 0} (f : X → Y) (o : Option X) → is_some (option_map f o) ≡ is_some o
some_mapped f None = refl
some_mapped f (Some x) = refl

-- what stands at session j, under UE u
abbrev pub stands : UeRow → ℕ → ℕ → Option Context
stands x u j = option_map (context_of u j) (place_at x.places j)

place_written : (ps : List (Option Place)) (k : ℕ) (o : Option Place) (j : ℕ) → length ps ≡ 15 → 0 < k → k < 16 → place_at (set ps (k - 1) o) j ≡ cond (eqb k j) o (place_at ps j)
place_written ps k o j n a b = go (cases_eq k j)
  where
    go : (k ≡ j) ⊎ (k ≡ j → ⊥) → place_at (set ps (k - 1) o) j ≡ cond (eqb k j) o (place_at ps j)
    go (inl z) =
        rw (← z)
        (cond-true (ltb 0 k && ltb k 16) (get_or (set ps (k - 1) o) (k - 1) None) None (and_from _ _ (lt-ltb 0 k a) (lt-ltb k 16 b))
        ∙ get_or-set_same ps (k - 1) o None (omega (arith, n, a, b))
        ∙ sym (cond-true (eqb k k) o (place_at ps k) (eq-eqb k k refl)))
    go (inr z) = other (cases_Bool (ltb 0 j && ltb j 16)) ∙ sym (cond-false (eqb k j) o (place_at ps j) (ne_eqb k j z))
      where
        other : ((ltb 0 j && ltb j 16) ≡ true) ⊎ ((ltb 0 j && ltb j 16) ≡ false) → place_at (set ps (k - 1) o) j ≡ place_at ps j
        other (inl t) =
            let h = and_parts (ltb 0 j) (ltb j 16) t in
            let c = ltb-true 0 j h.0 in
            ap (λ (p : Option Place). cond (ltb 0 j && ltb j 16) p None) (get_or-set_other ps (k - 1) (j - 1) o None (λ y. z (omega (arith, y, a, c))))
        other (inr f) =
            cond-false (ltb 0 j && ltb j 16) (get_or (set ps (k - 1) o) (j - 1) None) None f
            ∙ sym (cond-false (ltb 0 j && ltb j 16) (get_or ps (j - 1) None) None f)

-- ---- how many places are filled

held_written : (ps : List (Option Place)) (k : ℕ) (o : Option Place) → length ps ≡ 15 → 0 < k → k < 16 → held_count (set ps (k - 1) o) + cond (is_some (place_at ps k)) 1 0 ≡ held_count ps + cond (is_some o) 1 0
held_written ps k o n a b =
    let e = count_change (λ j. is_some (place_at (set ps (k - 1) o) j)) (λ j. is_some (place_at ps j)) 1 15 k (omega (arith, a)) (omega (arith, b)) same in
    rw here at e
  where
    same : (j : ℕ) → (j ≡ k → ⊥) → is_some (place_at (set ps (k - 1) o) j) ≡ is_some (place_at ps j)
    same j h = ap (λ (p : Option Place). is_some p) (place_written ps k o j n a b ∙ cond-false (eqb k j) o (place_at ps j) (ne_eqb k j (λ z. h (sym z))))

    here : is_some (place_at (set ps (k - 1) o) k) ≡ is_some o
    here = ap (λ (p : Option Place). is_some p) (place_written ps k o k n a b ∙ cond-true (eqb k k) o (place_at ps k) (eq-eqb k k refl))

pub others_held : (x : UeRow) → others_in x 0 ≡ held_count x.places
others_held x = count_same (other_in x 0) (λ j. is_some (place_at x.places j)) 1 15 same
  where
    same : (j : ℕ) → 1 ≤ j → j < 16 → other_in x 0 j ≡ is_some (place_at x.places j)
    same j a b =
        ap (λ (t : Bool). t && is_some (context_at x j)) (not_from_false (eqb j 0) (ne_eqb j 0 (λ z. omega (arith, z, a))))
        ∙ some_mapped (context_of x.ue j) (place_at x.places j)

-- the filled places are those of the other sessions, and the session's own
others_kept : (x : UeRow) (k : ℕ) → others_in x k + cond (is_some (context_at x k)) 1 0 ≡ held_count x.places
others_kept x k = go (cases_Bool (ltb 0 k && ltb k 16))
  where
    apart : (j : ℕ) → (j ≡ k → ⊥) → other_in x k j ≡ is_some (place_at x.places j)
    apart j h =
        ap (λ (t : Bool). t && is_some (context_at x j)) (not_from_false (eqb j k) (ne_eqb j k h))
        ∙ some_mapped (context_of x.ue j) (place_at x.places j)

    own : other_in x k k ≡ false
    own = ap (λ (t : Bool). not t && is_some (context_at x k)) (eq-eqb k k refl)

    go : ((ltb 0 k && ltb k 16) ≡ true) ⊎ ((ltb 0 k && ltb k 16) ≡ false) → others_in x k + cond (is_some (context_at x k)) 1 0 ≡ held_count x.places
    go (inl t) =
        let h = and_parts (ltb 0 k) (ltb k 16) t in
        let a = ltb-true 0 k h.0 in
        let b = ltb-true k 16 h.1 in
        let e = count_change (other_in x k) (λ j. is_some (place_at x.places j)) 1 15 k (omega (arith, a)) (omega (arith, b)) apart in
        let s = ap (λ (t : Bool). cond {A = ℕ} t 1 0) (some_mapped (context_of x.ue k) (place_at x.places k)) in
        let n = ap (λ (t : Bool). cond {A = ℕ} t 1 0) own in
        omega (arith, e, s, n)
    go (inr f) =
        let none : is_some (context_at x k) ≡ false =
        some_mapped (context_of x.ue k) (place_at x.places k) ∙ ap (λ (p : Option Place). is_some p) (cond-false (ltb 0 k && ltb k 16) (get_or x.places (k - 1) None) None f) in
        let e = count_same (other_in x k) (λ j. is_some (place_at x.places j)) 1 15 (λ j a b. apart j (λ z. true≢false (sym (and_from _ _ (lt-ltb 0 j (omega (arith, a))) (lt-ltb j 16 (omega (arith, b)))) ∙ ap (λ i. ltb 0 i && ltb i 16) z ∙ f))) in
        let n = ap (λ (t : Bool). cond {A = ℕ} t 1 0) none in
        omega (arith, e, n)

-- the session's own is one of them
pub one_held : (x : UeRow) (k : ℕ) (b : Bool) → b ≡ is_some (context_at x k) → bool_byte b ≤ x.held
one_held x k true e =
    let h = others_kept x k in
    let n = ap (λ (t : Bool). cond {A = ℕ} t 1 0) e in
    let c = x.counted in
    omega (arith, h, n, c)
one_held x k false e = omega arith

pub others_but : (x : UeRow) (k : ℕ) (b : Bool) → b ≡ is_some (context_at x k) → x.held - bool_byte b ≡ others_in x k
others_but x k true e =
    let h = others_kept x k in
    let n = ap (λ (t : Bool). cond {A = ℕ} t 1 0) e in
    let c = x.counted in
    omega (arith, h, n, c)
others_but x k false e =
    let h = others_kept x k in
    let n = ap (λ (t : Bool). cond {A = ℕ} t 1 0) e in
    let c = x.counted in
    omega (arith, h, n, c)

held_after : (x : UeRow) (k : ℕ) (o : Option Place) → length x.places ≡ 15 → 0 < k → k < 16 → held_count (set x.places (k - 1) o) + cond (is_some (context_at x k)) 1 0 ≡ x.held + cond (is_some o) 1 0
held_after x k o n a b =
    let e = held_written x.places k o n a b in
    let f = x.counted in
    let g = ap (λ (t : Bool). cond {A = ℕ} t 1 0) (some_mapped (context_of x.ue k) (place_at x.places k)) in
    omega (arith, e, f, g)

pub held_most : (x : UeRow) → x.held ≤ 15
held_most x =
    let e = count_by-le-length (λ k. is_some (place_at x.places k)) sessions in
    let f = x.counted in
    omega (arith, e, f)

-- what a put adds to the number, and what stood there
added : (t b : Bool) → t ≡ not b → bool_byte b + cond t 1 0 ≡ 1
added true true e = absurd (true≢false e)
added true false e = refl
added false true e = refl
added false false e = absurd (true≢false (sym e))

pub added_most : (b : Bool) → bool_byte b ≤ 1
added_most true = omega arith
added_most false = omega arith

-- one more is filled, unless the session had a context
pub held_put : (x : UeRow) (k i : ℕ) (p : Place) (o : Option Context) (b : Bool) (r : ℕ) → i ≡ k → (ltb 0 k && ltb k 16) ≡ true → length x.places ≡ 15 → o ≡ context_at x k → is_some o ≡ not b → r ≡ bool_byte b → x.held + r ≡ held_count (set x.places (i - 1) (Some p))
held_put x k i p o b r z h n c d e =
    let a = and_parts (ltb 0 k) (ltb k 16) h in
    let f : held_count (set x.places (k - 1) (Some p)) + cond (is_some (context_at x k)) 1 0 ≡ x.held + 1 = held_after x k (Some p) n (ltb-true 0 k a.0) (ltb-true k 16 a.1) in
    let g = added (is_some (context_at x k)) b (ap (λ (q : Option Context). is_some q) (sym c) ∙ d) in
    rw z (omega (arith, f, g, e))

-- one less is filled
pub held_removed : (x : UeRow) (k i : ℕ) (o : Option Context) → i ≡ k → length x.places ≡ 15 → o ≡ context_at x k → is_some o ≡ true → x.held - 1 ≡ held_count (set x.places (i - 1) None)
held_removed x k i o z n c d = go (cases_Bool (ltb 0 k && ltb k 16))
  where
    had : is_some (context_at x k) ≡ true
    had = ap (λ (q : Option Context). is_some q) (sym c) ∙ d

    go : ((ltb 0 k && ltb k 16) ≡ true) ⊎ ((ltb 0 k && ltb k 16) ≡ false) → x.held - 1 ≡ held_count (set x.places (i - 1) None)
    go (inl h) =
        let a = and_parts (ltb 0 k) (ltb k 16) h in
        let f : held_count (set x.places (k - 1) None) + cond (is_some (context_at x k)) 1 0 ≡ x.held + 0 = held_after x k None n (ltb-true 0 k a.0) (ltb-true k 16 a.1) in
        let g = ap (λ (t : Bool). cond {A = ℕ} t 1 0) had in
        rw z (omega (arith, f, g))
    go (inr f) = absurd (true≢false (sym had ∙ ap (λ (q : Option Context). is_some q) (out_none x k f)))

-- ---- a row that is written

module _ (x y : UeRow) (u k : ℕ) (o : Option Place) (w : Writes x y u k o) (a : 0 < k) (b : k < 16) where
  pub written_at : (j : ℕ) → context_at y j ≡ cond (eqb k j) (option_map (context_of u k) o) (stands x u j)
  written_at j =
      ap (λ (v : ℕ). option_map (context_of v j) (place_at y.places j)) w.ue
      ∙ ap (λ (ps : List (Option Place)). option_map (context_of u j) (place_at ps j)) w.places
      ∙ ap (option_map (context_of u j)) (place_written x.places k o j w.long a b)
      ∙ go (cases_Bool (eqb k j))
    where
      go : (eqb k j ≡ true) ⊎ (eqb k j ≡ false) → option_map (context_of u j) (cond (eqb k j) o (place_at x.places j)) ≡ cond (eqb k j) (option_map (context_of u k) o) (stands x u j)
      go (inl e) = rw e (ap (λ (i : ℕ). option_map (context_of u i) o) (sym (eqb-true k j e)))
      go (inr e) = rw e

  pub written_size : others_in y 0 + cond (is_some (stands x u k)) 1 0 ≡ others_in x 0 + cond (is_some o) 1 0
  written_size =
      let e = held_written x.places k o w.long a b in
      let f = others_held x in
      let g = others_held y ∙ ap held_count w.places in
      let h = ap (λ (t : Bool). cond {A = ℕ} t 1 0) (some_mapped (context_of u k) (place_at x.places k)) in
      omega (arith, e, f, g, h)
