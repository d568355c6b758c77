-- What is in a list, and what stays in it.
use Rattle.std.proofs.Common.{◌≡◌, Bool, true, false, cond, ◌⊎◌, List, [], ◌∷◌, map, is_some, Some, Option, unwrap_or, sym, refl, ap, ◌∙◌, subst, inl, inr}
use Rattle.std.specs.List.{find, filter, list_any, AllByRecursion}
use Rattle.std.proofs.lemmas.Bool.{cond-true, false≢true, or_left, or_right, or_cases}
use Rattle.stores.specs.declared.context.Context.{Context}
use Rattle.stores.specs.Contexts.{is_of, lookup, Once}
use Rattle.runs.proofs.Leaving.{pair_of, pair_from}
pub use Rattle.runs.proofs.Lists.{all_map, all_weaker}

-- x is one of these
abbrev pub In : {X : Type 0} → X → List X → Type 0
In x [] = ⊥
In x (y ∷ ys) = (x ≡ y) ⊎ In x ys

module _ {X : Type 0} where
  -- what holds of each holds of this one
  pub all_in : (P : X → Type 0) (xs : List X) (x : X) → AllByRecursion P xs → In x xs → P x
  all_in P [] x a i = absurd i
  all_in P (y ∷ ys) x a (inl e) = subst P (sym e) a.0
  all_in P (y ∷ ys) x a (inr j) = all_in P ys x a.1 j

  -- what passes stays
  pub in_filter : (test : X → Bool) (xs : List X) (x : X) → test x ≡ true → In x xs → In x (filter test xs)
  in_filter test [] x p i = i
  in_filter test (y ∷ ys) x p i = go (test y) refl (in_filter test ys x p) i
    where
      go : (b : Bool) → test y ≡ b → (In x ys → In x (filter test ys)) → In x (y ∷ ys) → In x (cond b (y ∷ filter test ys) (filter test ys))
      go true t rest (inl e) = inl e
      go true t rest (inr j) = inr (rest j)
      go false t rest (inl e) = absurd (false≢true (sym t ∙ sym (ap test e) ∙ p))
      go false t rest (inr j) = rest j

  -- and what stays passes
  pub from_filter : (test : X → Bool) (xs : List X) (x : X) → In x (filter test xs) → (test x ≡ true) × In x xs
  from_filter test [] x i = absurd i
  from_filter test (y ∷ ys) x i = go (test y) refl (from_filter test ys x) i
    where
      go : (b : Bool) → test y ≡ b → (In x (filter test ys) → (test x ≡ true) × In x ys) → In x (cond b (y ∷ filter test ys) (filter test ys)) → (test x ≡ true) × In x (y ∷ ys)
      go true t rest (inl e) = (ap test e ∙ t, inl e)
      go true t rest (inr j) = ((rest j).0, inr (rest j).1)
      go false t rest j = ((rest j).0, inr (rest j).1)

  -- what is found passes, and is there
  pub found_in : (test : X → Bool) (xs : List X) (x : X) → find test xs ≡ Some x → (test x ≡ true) × In x xs
  found_in test [] x e = absurd (false≢true (ap (λ (o : Option X). is_some o) e))
  found_in test (y ∷ ys) x e = go (test y) refl (found_in test ys x) e
    where
      go : (b : Bool) → test y ≡ b → (find test ys ≡ Some x → (test x ≡ true) × In x ys) → cond b (Some y) (find test ys) ≡ Some x → (test x ≡ true) × In x (y ∷ ys)
      go true t rest q = let s : y ≡ x = ap (λ (o : Option X). unwrap_or o y) q in (ap test (sym s) ∙ t, inl (sym s))
      go false t rest q = ((rest q).0, inr (rest q).1)

  -- what passes is found, or another before it
  pub some_found : (test : X → Bool) (xs : List X) (x : X) → test x ≡ true → In x xs → is_some (find test xs) ≡ true
  some_found test [] x p i = absurd i
  some_found test (y ∷ ys) x p i = go (test y) refl (some_found test ys x p) i
    where
      go : (b : Bool) → test y ≡ b → (In x ys → is_some (find test ys) ≡ true) → In x (y ∷ ys) → is_some (cond b (Some y) (find test ys)) ≡ true
      go true t rest j = refl
      go false t rest (inl e) = absurd (false≢true (sym t ∙ sym (ap test e) ∙ p))
      go false t rest (inr j) = rest j

  -- a test that one of these passes
  pub passes_any : (test : X → Bool) (xs : List X) (x : X) → test x ≡ true → In x xs → list_any test xs ≡ true
  passes_any test [] x p i = absurd i
  passes_any test (y ∷ ys) x p (inl e) =
      or_left (test y) (list_any test ys) (sym (ap test e) ∙ p)
  passes_any test (y ∷ ys) x p (inr j) =
      or_right (test y) (list_any test ys) (passes_any test ys x p j)

  pub one_passes : (test : X → Bool) (xs : List X) → list_any test xs ≡ true → (x : X) × In x xs × (test x ≡ true)
  one_passes test [] e = absurd (false≢true e)
  one_passes test (y ∷ ys) e = go (one_passes test ys) (or_cases (test y) (list_any test ys) e)
    where
      go : (list_any test ys ≡ true → (x : X) × In x ys × (test x ≡ true)) → (test y ≡ true) ⊎ (list_any test ys ≡ true) → (x : X) × In x (y ∷ ys) × (test x ≡ true)
      go rest (inl p) = (y, inl refl, p)
      go rest (inr j) = let r = rest j in (r.0, inr r.1, r.2)

module _ {X Y : Type 0} (f : X → Y) where
  -- what is in a list is in it as it is read by f
  pub in_map : (xs : List X) (x : X) → In x xs → In (f x) (map f xs)
  in_map [] x i = absurd i
  in_map (y ∷ ys) x (inl e) = inl (ap f e)
  in_map (y ∷ ys) x (inr j) = inr (in_map ys x j)

  -- and what is in it as it is read is read from something in it
  pub from_map : (xs : List X) (y : Y) → In y (map f xs) → (x : X) × In x xs × (f x ≡ y)
  from_map [] y i = absurd i
  from_map (x ∷ xs) y (inl e) = (x, inl refl, sym e)
  from_map (x ∷ xs) y (inr j) = let r = from_map xs y j in (r.0, inr r.1, r.2)

-- ---- contexts

pub of_own : (c : Context) → is_of c.ue c.session c ≡ true
of_own c = pair_from c.ue c.session c.ue c.session refl refl

-- c is looked up where each session of each UE has at most one context
pub looked_up : (cs : List Context) (c : Context) → Once cs → In c cs → lookup cs c.ue c.session ≡ Some c
looked_up [] c o i = absurd i
looked_up (d ∷ ds) c o (inl e) =
    subst (λ (x : Context). lookup (d ∷ ds) x.ue x.session ≡ Some x) (sym e) (cond-true (is_of d.ue d.session d) _ _ (of_own d))
looked_up (d ∷ ds) c o (inr j) = go (is_of c.ue c.session d) refl (looked_up ds c o.1 j)
  where
    go : (b : Bool) → is_of c.ue c.session d ≡ b → lookup ds c.ue c.session ≡ Some c → cond b (Some d) (lookup ds c.ue c.session) ≡ Some c
    go true t q =
        let p = pair_of d.ue d.session c.ue c.session t in
        let z : lookup ds d.ue d.session ≡ Some c = (λ i. lookup ds (p.0 i) (p.1 i)) ∙ q in
        absurd (false≢true (ap (λ (x : Option Context). is_some x) (sym o.0 ∙ z)))
    go false t q = q
