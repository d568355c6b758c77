-- What is counted over a list of contexts, one by one, is what its sessions look up to.
use Rattle.std.proofs.Common.{◌≡◌, ℕ, min, ◌<◌, ◌≤◌, Bool, true, false, cond, not, ◌&&◌, eqb, ltb, ◌⊎◌, List, [], ◌∷◌, is_some, Some, None, Option, unwrap_or, sym, refl, ap, ◌∙◌, subst, inl, inr, arith}
use Rattle.std.specs.List.{count_by, filter_map, fold, reduce}
use Rattle.std.proofs.lemmas.Bool.{cases_Bool, cases_lt, and_parts, and_from, and_left, and_right, eqb-true, eq-eqb, ne_eqb, ltb-true, false≢true}
use Rattle.tables.proofs.Lists.{passes_at}
use Rattle.stores.proofs.Counts.{count_cons, count_same, count_change}
use Rattle.stores.specs.declared.context.Context.{Context}
use Rattle.stores.specs.Contexts.{pair_fits, fits, is_of, lookup, Once, other_at, others_of, is_emergency, emergency_at, Lowest, is_other, other_emergency}

-- every context is in bounds
abbrev pub AllFit : List Context → Type 0
AllFit [] = Unit {0}
AllFit (c ∷ cs) = (fits c ≡ true) × AllFit cs

session_fits : (c : Context) → fits c ≡ true → (0 < c.session) × (c.session ≤ 15)
session_fits c e =
    let a = (and_parts (pair_fits c.ue c.session) (ltb 0 c.smf && ltb c.dnn 65) e).0 in
    let b = (and_parts (ltb 0 c.ue) (ltb 0 c.session && ltb c.session 16) a).1 in
    let d = and_parts (ltb 0 c.session) (ltb c.session 16) b in
    let l = ltb-true c.session 16 d.1 in
    (ltb-true 0 c.session d.0, omega (arith, l))

-- what is found is in bounds
pub found_fits : (xs : List Context) (u k : ℕ) (c : Context) → AllFit xs → lookup xs u k ≡ Some c → fits c ≡ true
found_fits [] u k c h e = absurd (false≢true (ap (λ (o : Option Context). is_some o) e))
found_fits (x ∷ xs) u k c h e = go (is_of u k x) e (found_fits xs u k c h.1)
  where
    go : (b : Bool) → cond b (Some x) (lookup xs u k) ≡ Some c → (lookup xs u k ≡ Some c → fits c ≡ true) → fits c ≡ true
    go true q rest = ap (λ (o : Option Context). fits (unwrap_or o x)) (sym q) ∙ h.0
    go false q rest = rest q

-- a pair that is found with a context in bounds is in bounds
pub fits_found : (xs : List Context) (u k : ℕ) (c : Context) → lookup xs u k ≡ Some c → fits c ≡ true → pair_fits u k ≡ true
fits_found xs u k c e f =
    let h = (passes_at (is_of u k) xs c e).1.1.1 in
    let p = and_parts (eqb c.ue u) (eqb c.session k) h in
    let z = eqb-true c.ue u p.0 in
    let y = eqb-true c.session k p.1 in
    ap (λ (i : ℕ). pair_fits i k) (sym z) ∙ ap (λ (i : ℕ). pair_fits c.ue i) (sym y) ∙ (and_parts (pair_fits c.ue c.session) _ f).0

-- so a pair out of bounds is not found
pub found_pair : (xs : List Context) (u k : ℕ) → AllFit xs → is_some (lookup xs u k) ≡ true → pair_fits u k ≡ true
found_pair xs u k h e = go (lookup xs u k) refl e
  where
    go : (o : Option Context) → lookup xs u k ≡ o → is_some o ≡ true → pair_fits u k ≡ true
    go None p q = absurd (false≢true q)
    go (Some c) p q = fits_found xs u k c p (found_fits xs u k c h p)

-- ---- one context in front

record Front (c : Context) (cs : List Context) (u k : ℕ) : Type 0 where
  pub here : is_of u k c ≡ true → (lookup (c ∷ cs) u k ≡ Some c) × (lookup cs u k ≡ None)
  pub past : is_of u k c ≡ false → lookup (c ∷ cs) u k ≡ lookup cs u k

front : (c : Context) (cs : List Context) (u k : ℕ) → Once (c ∷ cs) → Front c cs u k
front c cs u k o =
    record {
      here = λ e.
          let a = eqb-true c.ue u (and_parts (eqb c.ue u) (eqb c.session k) e).0 in
          let b = eqb-true c.session k (and_parts (eqb c.ue u) (eqb c.session k) e).1 in
          (rw e refl, rw (← a, ← b) o.0);
      past = λ e. rw e refl;
    }

-- a test of a session by what it looks up to, where sessions equal to k are left out
module _ (c : Context) (cs : List Context) (u k : ℕ) (o : Once (c ∷ cs)) (f : Option Context → Bool) (z : f None ≡ false) where
  abbrev at_front : ℕ → Bool
  at_front j = not (eqb j k) && f (lookup (c ∷ cs) u j)

  abbrev at_rest : ℕ → Bool
  at_rest j = not (eqb j k) && f (lookup cs u j)

  -- the context in front does not count
  same_at : (is_other u k c && f (Some c)) ≡ false → (j : ℕ) → at_front j ≡ at_rest j
  same_at h j = go (cases_Bool (is_of u j c))
    where
      go : (is_of u j c ≡ true) ⊎ (is_of u j c ≡ false) → at_front j ≡ at_rest j
      go (inl e) =
          let p = and_parts (eqb c.ue u) (eqb c.session j) e in
          let b = eqb-true c.session j p.1 in
          let q : (not (eqb c.session k) && f (Some c)) ≡ false = rw p.0 at h in
          let w = (front c cs u j o).here e in
          rw (w.0, w.1, z) (ap (λ i. not (eqb i k) && f (Some c)) (sym b) ∙ q ∙ sym (and_right (not (eqb j k)) false refl))
      go (inr e) = rw ((front c cs u j o).past e) refl

  -- the context in front counts
  more_at : (is_other u k c && f (Some c)) ≡ true → (at_front c.session ≡ true) × ((at_rest c.session ≡ false) × ((j : ℕ) → (j ≡ c.session → ⊥) → at_front j ≡ at_rest j))
  more_at h =
      let a = and_parts (is_other u k c) (f (Some c)) h in
      let b = and_parts (eqb c.ue u) (not (eqb c.session k)) a.0 in
      let w = (front c cs u c.session o).here (and_from _ _ b.0 (eq-eqb _ _ refl)) in (
        rw w.0 (and_from _ _ b.1 a.1),
        (
          rw w.1 (and_right _ _ z),
          (λ j n. rw ((front c cs u j o).past (and_right _ _ (ne_eqb _ _ (λ x. n (sym x))))) refl),
        ),
      )

-- ---- the number of a UE's other contexts

pub count_others : (u k : ℕ) (xs : List Context) → Once xs → AllFit xs → count_by (is_other u k) xs ≡ others_of xs u k
count_others u k [] o h = sym (count_same (other_at [] u k) (λ j. false) 1 15 (λ j a b. and_right (not (eqb j k)) false refl))
count_others u k (c ∷ cs) o h = go (cases_Bool (is_other u k c)) (count_others u k cs o.1 h.1)
  where
    go : (is_other u k c ≡ true) ⊎ (is_other u k c ≡ false) → count_by (is_other u k) cs ≡ others_of cs u k → count_by (is_other u k) (c ∷ cs) ≡ others_of (c ∷ cs) u k
    go (inl e) rest =
        let m = more_at c cs u k o (λ (p : Option Context). is_some p) refl (and_from _ _ e refl) in
        let b = session_fits c h.0 in
        let d = count_change (other_at (c ∷ cs) u k) (other_at cs u k) 1 15 c.session (omega (arith, b)) (omega (arith, b)) m.1.1 in
        let n = rw (m.0, m.1.0) at d in
        let x = count_cons (is_other u k) c cs in
        let y = ap (λ (b : Bool). cond {A = ℕ} b 1 0) e in
        omega (arith, rest, n, x, y)
    go (inr e) rest =
        let n = count_same (other_at (c ∷ cs) u k) (other_at cs u k) 1 15 (λ j a l. same_at c cs u k o (λ (p : Option Context). is_some p) refl (and_left _ _ e) j) in
        let x = count_cons (is_other u k) c cs in
        let y = ap (λ (b : Bool). cond {A = ℕ} b 1 0) e in
        omega (arith, rest, n, x, y)

-- ---- its lowest other emergency session

-- the lowest of the sessions that the contexts give
abbrev pub low_of : ℕ → ℕ → List Context → Option ℕ
low_of u k xs = reduce min (filter_map (other_emergency u k) xs)

fold_min : (a b : ℕ) (xs : List ℕ) → fold min (min a b) xs ≡ min a (fold min b xs)
fold_min a b [] = refl
fold_min a b (x ∷ xs) =
    let e : min (min a b) x ≡ min a (min b x) = omega arith in
    rw e (fold_min a (min b x) xs)

-- a test that passes at m too has the lower of m and what was the lowest
lower_first : (t s : ℕ → Bool) (m : ℕ) (xs : List ℕ) → 0 < m → m ≤ 15 → t m ≡ true → s m ≡ false → ((j : ℕ) → (j ≡ m → ⊥) → t j ≡ s j) → Lowest s (reduce min xs) → Lowest t (reduce min (m ∷ xs))
lower_first t s m [] a b p q h n = (a, b, p, λ j x y. h j (λ e. omega (arith, e, y)) ∙ n j x (omega (arith, y, b)))
lower_first t s m (z ∷ zs) a b p q h (x, y, v, w) =
    subst (λ i. Lowest t (Some i)) (sym (fold_min m z zs)) (go (fold min z zs) x y v w (cases_lt (fold min z zs) m))
  where
    go : (i : ℕ) → 0 < i → i ≤ 15 → s i ≡ true → ((j : ℕ) → 0 < j → j < i → s j ≡ false) → (i < m) ⊎ (m ≤ i) → Lowest t (Some (min m i))
    go i x y v w (inl l) =
        let e : min m i ≡ i = omega (arith, l) in
        rw e (x, y, h i (λ z. omega (arith, z, l)) ∙ v, λ j c d. h j (λ z. omega (arith, z, d, l)) ∙ w j c d)
    go i x y v w (inr l) =
        let e : min m i ≡ m = omega (arith, l) in
        rw e (a, b, p, λ j c d. h j (λ z. omega (arith, z, d)) ∙ w j c (omega (arith, d, l)))

same_lowest : (t s : ℕ → Bool) (r : Option ℕ) → ((j : ℕ) → t j ≡ s j) → Lowest s r → Lowest t r
same_lowest t s None h n = λ j x y. h j ∙ n j x y
same_lowest t s (Some i) h (x, y, v, w) = (x, y, h i ∙ v, λ j c d. h j ∙ w j c d)

pub lowest_other : (u k : ℕ) (xs : List Context) → Once xs → AllFit xs → Lowest (emergency_at xs u k) (low_of u k xs)
lowest_other u k [] o h = λ j x y. and_right (not (eqb j k)) false refl
lowest_other u k (c ∷ cs) o h = go (cases_Bool (is_other u k c && c.emergency)) (lowest_other u k cs o.1 h.1)
  where
    go : ((is_other u k c && c.emergency) ≡ true) ⊎ ((is_other u k c && c.emergency) ≡ false) → Lowest (emergency_at cs u k) (low_of u k cs) → Lowest (emergency_at (c ∷ cs) u k) (low_of u k (c ∷ cs))
    go (inl e) rest =
        let m = more_at c cs u k o is_emergency refl e in
        let b = session_fits c h.0 in
        rw e (lower_first (emergency_at (c ∷ cs) u k) (emergency_at cs u k) c.session (filter_map (other_emergency u k) cs) b.0 b.1 m.0 m.1.0 m.1.1 rest)
    go (inr e) rest = rw e (same_lowest (emergency_at (c ∷ cs) u k) (emergency_at cs u k) (low_of u k cs) (same_at c cs u k o is_emergency refl e) rest)
