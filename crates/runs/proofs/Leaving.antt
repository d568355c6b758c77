-- The account's contexts where some leave and one enters: what each session of each UE looks up, that it has at most one, and what holds of each.
use Rattle.std.proofs.Common.{◌≡◌, ℕ, Bool, true, false, cond, not, ◌&&◌, eqb, List, [], ◌∷◌, map, Some, None, Option, is_some, sym, refl, ap, ◌∙◌}
use Rattle.std.specs.List.{AllByRecursion, filter}
use Rattle.std.specs.Option.{option_or}
use Rattle.std.proofs.lemmas.Bool.{false≢true, true≢false, and_parts, and_from, eqb-true, eq-eqb}
use Rattle.accounts.specs.Accounts.{Numbered, without, left, entered}
use Rattle.stores.specs.declared.context.Context.{Context}
use Rattle.stores.specs.Contexts.{lookup, is_of, Once}
use Rattle.runs.proofs.Lists.{all_filter}

-- the contexts of these
abbrev pub bare : List Numbered → List Context
bare xs = map (λ x. x.context) xs

-- the same session of the same UE
abbrev pub same_pair : ℕ → ℕ → ℕ → ℕ → Bool
same_pair u k v j = eqb u v && eqb k j

pub pair_of : (u k v j : ℕ) → same_pair u k v j ≡ true → (u ≡ v) × (k ≡ j)
pair_of u k v j e =
    let p = and_parts (eqb u v) (eqb k j) e in
    (eqb-true u v p.0, eqb-true k j p.1)

pub pair_from : (u k v j : ℕ) → u ≡ v → k ≡ j → same_pair u k v j ≡ true
pair_from u k v j p q = and_from (eqb u v) (eqb k j) (eq-eqb u v p) (eq-eqb k j q)

-- a context of both pairs makes them one
both_pairs : (c : Context) (u k v j : ℕ) → is_of u k c ≡ true → is_of v j c ≡ true → same_pair u k v j ≡ true
both_pairs c u k v j a b =
    let p = pair_of c.ue c.session u k a in
    let q = pair_of c.ue c.session v j b in
    pair_from u k v j (sym p.0 ∙ q.0) (sym p.1 ∙ q.1)

one_pair : (c : Context) (u k v j : ℕ) → same_pair u k v j ≡ true → is_of u k c ≡ is_of v j c
one_pair c u k v j e =
    let p = pair_of u k v j e in
    λ i. is_of (p.0 i) (p.1 i) c

-- ---- what is looked up

pub lookup_without : (u k : ℕ) (xs : List Numbered) (v j : ℕ) → lookup (bare (without u k xs)) v j ≡ cond (same_pair u k v j) None (lookup (bare xs) v j)
lookup_without u k [] v j = go (same_pair u k v j)
  where
    go : (q : Bool) → ◌≡◌ {A = Option Context} None (cond q None None)
    go true = refl
    go false = refl
lookup_without u k (x ∷ xs) v j =
    first (is_of u k x.context)
    ∙ go (is_of u k x.context) (is_of v j x.context) (same_pair u k v j) (both_pairs x.context u k v j) (one_pair x.context u k v j) (lookup (bare (without u k xs)) v j) (lookup (bare xs) v j) (lookup_without u k xs v j)
  where
    first : (b : Bool) → lookup (bare (cond (not b) (x ∷ without u k xs) (without u k xs))) v j ≡ cond b (lookup (bare (without u k xs)) v j) (cond (is_of v j x.context) (Some x.context) (lookup (bare (without u k xs)) v j))
    first true = refl
    first false = refl

    go : (b p q : Bool) → (b ≡ true → p ≡ true → q ≡ true) → (q ≡ true → b ≡ p) → (l r : Option Context) → l ≡ cond q None r → cond b l (cond p (Some x.context) l) ≡ cond q None (cond p (Some x.context) r)
    go true true true f g l r h = h
    go true true false f g l r h = absurd (false≢true (f refl refl))
    go true false q f g l r h = h
    go false true true f g l r h = absurd (false≢true (g refl))
    go false true false f g l r h = refl
    go false false q f g l r h = h

pub lookup_left : (b : Bool) (u k : ℕ) (xs : List Numbered) (v j : ℕ) → lookup (bare (left b u k xs)) v j ≡ cond (same_pair u k v j) (cond b None (lookup (bare xs) u k)) (lookup (bare xs) v j)
lookup_left true u k xs v j = lookup_without u k xs v j
lookup_left false u k xs v j = go (same_pair u k v j) refl
  where
    go : (q : Bool) → same_pair u k v j ≡ q → lookup (bare xs) v j ≡ cond q (lookup (bare xs) u k) (lookup (bare xs) v j)
    go true e = let p = pair_of u k v j e in λ i. lookup (bare xs) (sym p.0 i) (sym p.1 i)
    go false e = refl

lookup_entered : (n : ℕ) (o : Option Context) (ys : List Numbered) (u k : ℕ) → ((c : Context) → o ≡ Some c → (c.ue ≡ u) × (c.session ≡ k)) → (v j : ℕ) → lookup (bare (entered n o ys)) v j ≡ cond (same_pair u k v j) (option_or o (lookup (bare ys) u k)) (lookup (bare ys) v j)
lookup_entered n None ys u k h v j = lookup_left false u k ys v j
lookup_entered n (Some c) ys u k h v j = ap (λ (l : Option Context). cond (is_of v j c) (Some c) l) (lookup_without c.ue c.session ys v j) ∙ own (is_of v j c) ∙ ap (λ (b : Bool). cond b (Some c) (lookup (bare ys) v j)) same
  where
    own : (q : Bool) → cond q (Some c) (cond q None (lookup (bare ys) v j)) ≡ cond q (Some c) (lookup (bare ys) v j)
    own true = refl
    own false = refl

    same : is_of v j c ≡ same_pair u k v j
    same = let p = h c refl in λ i. same_pair (p.0 i) (p.1 i) v j

-- after a release that may be ordered, and a context of the same pair that may be entered
pub lookup_after : (n : ℕ) (o : Option Context) (b : Bool) (xs : List Numbered) (u k : ℕ) → ((c : Context) → o ≡ Some c → (c.ue ≡ u) × (c.session ≡ k)) → (v j : ℕ) → lookup (bare (entered n o (left b u k xs))) v j ≡ cond (same_pair u k v j) (option_or o (cond b None (lookup (bare xs) u k))) (lookup (bare xs) v j)
lookup_after n o b xs u k h v j =
    lookup_entered n o (left b u k xs) u k h v j
    ∙ (λ i. cond (same_pair u k v j) (option_or o (here i)) (lookup_left b u k xs v j i))
    ∙ go (same_pair u k v j) (option_or o (cond b None (lookup (bare xs) u k))) (cond b None (lookup (bare xs) u k)) (lookup (bare xs) v j)
  where
    here : lookup (bare (left b u k xs)) u k ≡ cond b None (lookup (bare xs) u k)
    here = lookup_left b u k xs u k ∙ ap (λ (q : Bool). cond q (cond b None (lookup (bare xs) u k)) (lookup (bare xs) u k)) (pair_from u k u k refl refl)

    go : (q : Bool) (l m r : Option Context) → cond q l (cond q m r) ≡ cond q l r
    go true l m r = refl
    go false l m r = refl

-- ---- at most one context

none_filter : (test : Numbered → Bool) (xs : List Numbered) (u k : ℕ) → lookup (bare xs) u k ≡ None → lookup (bare (filter test xs)) u k ≡ None
none_filter test [] u k e = refl
none_filter test (x ∷ xs) u k e = go (is_of u k x.context) refl (test x) (none_filter test xs u k) e
  where
    go : (p : Bool) → is_of u k x.context ≡ p → (b : Bool) → (lookup (bare xs) u k ≡ None → lookup (bare (filter test xs)) u k ≡ None) → cond p (Some x.context) (lookup (bare xs) u k) ≡ None → lookup (bare (cond b (x ∷ filter test xs) (filter test xs))) u k ≡ None
    go true t b rest q = absurd (true≢false (ap (λ (o : Option Context). is_some o) q))
    go false t true rest q = past t ∙ rest q
      where
        past : is_of u k x.context ≡ false → cond (is_of u k x.context) (Some x.context) (lookup (bare (filter test xs)) u k) ≡ lookup (bare (filter test xs)) u k
        past z = ap (λ (b : Bool). cond b (Some x.context) (lookup (bare (filter test xs)) u k)) z
    go false t false rest q = rest q

pub once_filter : (test : Numbered → Bool) (xs : List Numbered) → Once (bare xs) → Once (bare (filter test xs))
once_filter test [] h = tt
once_filter test (x ∷ xs) h = go (test x) (once_filter test xs h.1)
  where
    go : (b : Bool) → Once (bare (filter test xs)) → Once (bare (cond b (x ∷ filter test xs) (filter test xs)))
    go true rest = (none_filter test xs x.context.ue x.context.session h.0, rest)
    go false rest = rest

pub once_left : (b : Bool) (u k : ℕ) (xs : List Numbered) → Once (bare xs) → Once (bare (left b u k xs))
once_left true u k xs h = once_filter (λ x. not (is_of u k x.context)) xs h
once_left false u k xs h = h

pub once_entered : (n : ℕ) (o : Option Context) (xs : List Numbered) → Once (bare xs) → Once (bare (entered n o xs))
once_entered n None xs h = h
once_entered n (Some c) xs h = (
  lookup_without c.ue c.session xs c.ue c.session ∙ ap (λ (q : Bool). cond q None (lookup (bare xs) c.ue c.session)) (pair_from c.ue c.session c.ue c.session refl refl),
  once_filter (λ x. not (is_of c.ue c.session x.context)) xs h,
)

-- ---- what holds of each

pub all_left : (P : Numbered → Type 0) (b : Bool) (u k : ℕ) (xs : List Numbered) → AllByRecursion P xs → AllByRecursion P (left b u k xs)
all_left P true u k xs h = all_filter P P (λ x. not (is_of u k x.context)) (λ x e p. p) xs h
all_left P false u k xs h = h

pub all_entered : (P : Numbered → Type 0) (n : ℕ) (o : Option Context) (xs : List Numbered) → ((c : Context) → o ≡ Some c → P (record { number = n; context = c })) → AllByRecursion P xs → AllByRecursion P (entered n o xs)
all_entered P n None xs f h = h
all_entered P n (Some c) xs f h = (f c refl, all_filter P P (λ x. not (is_of c.ue c.session x.context)) (λ x e p. p) xs h)
