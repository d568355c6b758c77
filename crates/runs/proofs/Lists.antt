-- What holds of each element of a list, with each replaced, and of those that a filter leaves.
use Rattle.std.proofs.Common.{◌≡◌, Bool, true, false, cond, List, [], ◌∷◌, map, refl}
use Rattle.std.specs.List.{AllByRecursion, filter}

module _ {X : Type 0} where
  pub all_weaker : (P Q : X → Type 0) → ((x : X) → P x → Q x) → (xs : List X) → AllByRecursion P xs → AllByRecursion Q xs
  all_weaker P Q f [] h = tt
  all_weaker P Q f (x ∷ xs) h = (f x h.0, all_weaker P Q f xs h.1)

  pub all_both : (P Q R : X → Type 0) → ((x : X) → P x → Q x → R x) → (xs : List X) → AllByRecursion P xs → AllByRecursion Q xs → AllByRecursion R xs
  all_both P Q R f [] h g = tt
  all_both P Q R f (x ∷ xs) h g = (f x h.0 g.0, all_both P Q R f xs h.1 g.1)

  -- with each replaced
  pub all_map : (P Q : X → Type 0) (g : X → X) → ((x : X) → P x → Q (g x)) → (xs : List X) → AllByRecursion P xs → AllByRecursion Q (map g xs)
  all_map P Q g f [] h = tt
  all_map P Q g f (x ∷ xs) h = (f x h.0, all_map P Q g f xs h.1)

  -- what a filter leaves passes
  pub all_filter : (P Q : X → Type 0) (test : X → Bool) → ((x : X) → test x ≡ true → P x → Q x) → (xs : List X) → AllByRecursion P xs → AllByRecursion Q (filter test xs)
  all_filter P Q test f [] h = tt
  all_filter P Q test f (x ∷ xs) h = go (test x) refl (all_filter P Q test f xs h.1)
    where
      go : (b : Bool) → test x ≡ b → AllByRecursion Q (filter test xs) → AllByRecursion Q (cond b (x ∷ filter test xs) (filter test xs))
      go true e rest = (f x e h.0, rest)
      go false e rest = rest

  -- two tests that agree at each element leave the same
  pub filter_alike : (p q : X → Bool) (xs : List X) → AllByRecursion (λ x. p x ≡ q x) xs → filter p xs ≡ filter q xs
  filter_alike p q [] h = refl
  filter_alike p q (x ∷ xs) h = λ i. cond (h.0 i) (x ∷ filter_alike p q xs h.1 i) (filter_alike p q xs h.1 i)

  -- a test that each element passes leaves all
  pub filter_whole : (p : X → Bool) (xs : List X) → AllByRecursion (λ x. p x ≡ true) xs → filter p xs ≡ xs
  filter_whole p [] h = refl
  filter_whole p (x ∷ xs) h = λ i. cond (h.0 i) (x ∷ filter_whole p xs h.1 i) (filter_whole p xs h.1 i)
