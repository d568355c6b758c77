-- The lowest of the IDs above a bound that serve.
use Rattle.std.proofs.Common.{◌≡◌, ℕ, ◌≤◌, Bool, true, false, min, ◌&&◌, eqb, ltb, List, [], ◌∷◌, map, Option, sym, refl, ◌∙◌, arith, subst}
use Rattle.std.specs.List.{list_any, filter, fold, reduce}
use Rattle.std.specs.Option.{option_map}
use Rattle.std.proofs.lemmas.Bool.{or_left, and_parts, and_from, eq-eqb, lt-ltb, ltb-true}
use Rattle.std.proofs.lemmas.Bool.Decides.{nat_tests}
use Rattle.std.proofs.lemmas.Iterator.Adapters.{option_map_id}
use Rattle.directories.specs.declared.served_set.ServedSet.{ServedSet}
use Rattle.directories.specs.Sets.{set_for, sets_serve}
use Rattle.directories.specs.Turns.{Lowest}

abbrev has : List ℕ → ℕ → Bool
has ks m = list_any (λ k. eqb k m) ks

reached : (k : ℕ) (ks : List ℕ) → has (k ∷ ks) (fold min k ks) ≡ true
reached k [] = or_left (eqb k k) false (eq-eqb k k refl)
reached k (j ∷ ks) = grind (arith, nat_tests, reached (min k j) ks)

bounds : (k : ℕ) (ks : List ℕ) (m : ℕ) → has (k ∷ ks) m ≡ true → fold min k ks ≤ m
bounds k [] m e = grind (arith, nat_tests)
bounds k (j ∷ ks) m e = grind (arith, nat_tests, bounds (min k j) ks m, bounds (min k j) ks (min k j))

-- the IDs above the bound in the sets for a slice and DNN
abbrev above : List ServedSet → ℕ → ℕ → ℕ → List ℕ
above sets s n bound = map (λ (x : ServedSet). x.smf) (filter (λ x. ltb bound x.smf && set_for x s n) sets)

members : (sets : List ServedSet) (s n bound m : ℕ) → has (above sets s n bound) m ≡ (sets_serve sets s n m && ltb bound m)
members [] s n bound m = refl
members (x ∷ sets) s n bound m = grind (arith, nat_tests, members sets s n bound m)

least : (serves : ℕ → Bool) (bound : ℕ) (ks : List ℕ) → ((m : ℕ) → has ks m ≡ (serves m && ltb bound m)) → Lowest serves bound (reduce min ks)
least serves bound [] h = λ m l. grind (arith, nat_tests, h m)
least serves bound (k ∷ ks) h =
    let p = and_parts (serves (fold min k ks)) (ltb bound (fold min k ks)) (sym (h (fold min k ks)) ∙ reached k ks) in
    (p.0, ltb-true bound _ p.1, λ m l t. bounds k ks m (h m ∙ and_from (serves m) (ltb bound m) t (lt-ltb bound m l)))

pub lowest_of : (sets : List ServedSet) (s n bound : ℕ) (r : Option ℕ) → option_map (λ k. k) r ≡ reduce min (above sets s n bound) → Lowest (sets_serve sets s n) bound r
lowest_of sets s n bound r e =
    subst (Lowest (sets_serve sets s n) bound) (sym e ∙ option_map_id r) (least (sets_serve sets s n) bound (above sets s n bound) (members sets s n bound))
