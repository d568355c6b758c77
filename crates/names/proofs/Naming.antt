-- Names, and the search for one.
use Rattle.std.specs.Iterator.Runs.{Run, RelatesRuns}
use Rattle.std.specs.Option.{IsSomeRelated, IsSomeAnd, IfSome}
use Rattle.std.specs.declared.alloc.AllocError.{AllocError}
use Rattle.std.proofs.Common.{◌≡◌, ℕ, suc, ◌+◌, ◌-◌, ◌<◌, ◌≤◌, Bool, true, false, cond, not, ◌&&◌, ltb, List, [], ◌∷◌, map, length, get_or, take, Some, None, Ok, Option, Result, position, vec_items, Decides, sym, refl, ap, ◌∙◌, subst, arith, Bor, rules}
use Rattle.std.specs.List.{list_all, zip, position_or_len, position_from, range_with_len, AllWithin, HoldsAt}
use Rattle.std.specs.Bool.{MatchBool}
use Rattle.std.proofs.lemmas.Grind.{common_steps}
use Rattle.std.proofs.lemmas.List.{ext_get_or, get_or-map, get_or-take, take-map, length-map, length-take-le}
use Rattle.std.proofs.lemmas.List.FromFn.{length-range_with_len, get_or-range_with_len}
use Rattle.std.proofs.lemmas.List.Quantifiers.{position-Some}
use Rattle.std.proofs.lemmas.List.Sums.{fails_before_first}
use Rattle.std.proofs.lemmas.Iterator.Adapters.{position_from-zero}
use Rattle.std.proofs.lemmas.Bool.{and_right, false≢true}
use Rattle.std.proofs.lemmas.Bool.Decides.{Decides-at, nat_tests}
use Rattle.std.proofs.lemmas.Slice.Eq.{IsBytesEq, compares_Decides}
use Rattle.names.specs.declared.name.Name.{Name}
use Rattle.names.specs.OwnNames.{own_names, lent_names}
use Rattle.names.specs.Names.{same_octet, same_name, Same, names_of, numbered, number_from, number_of, Numbers, Follows, FollowsEarlier, GoodNames}

same_name_compares : IsBytesEq same_name
unfolding same_name
same_name_compares = search rules

same_name_decides : (xs ys : List ℕ) → Decides (same_name xs ys) (xs ≡ ys)
same_name_decides xs ys = compares_Decides same_name same_name_compares xs ys

pub same : (xs ys : List ℕ) (r : Bool) → r ≡ same_name xs ys → Same xs ys r
same xs ys r e = record { value = e; equal = Decides-at r _ e (same_name_decides xs ys) }

pub other_length : (xs ys : List ℕ) → (length xs ≡ length ys → ⊥) → same_name xs ys ≡ false
unfolding same_name
other_length [] [] h = absurd (h refl)
other_length [] (y ∷ ys) h = refl
other_length (x ∷ xs) [] h = refl
other_length (x ∷ xs) (y ∷ ys) h = and_right _ _ (other_length xs ys (λ e. h (ap suc e)))

-- two names of one length, octet by octet
pub same_in_pairs : (xs ys : List ℕ) → length xs ≡ length ys → list_all (λ p. same_octet p.0 p.1) (zip xs ys) ≡ same_name xs ys
unfolding same_name
same_in_pairs [] [] h = refl
same_in_pairs [] (y ∷ ys) h = absurd (omega arith)
same_in_pairs (x ∷ xs) [] h = absurd (omega arith)
same_in_pairs (x ∷ xs) (y ∷ ys) h = ap (λ b. same_octet x y && b) (same_in_pairs xs ys (omega arith))

-- the place of the first name that is the same as x
abbrev place_of : List (List ℕ) → List ℕ → Option ℕ
place_of names x = position (λ name. same_name name x) names

first_after-map : {X Y : Type 0} (p : Y → Bool) (f : X → Y) (xs : List X) → position_or_len p (map f xs) ≡ position_or_len (λ x. p (f x)) xs
first_after-map p f [] = refl
first_after-map p f (x ∷ xs) = ap (λ n. cond (not (p (f x))) (1 + n) 0) (first_after-map p f xs)

pub position-map : {X Y : Type 0} (p : Y → Bool) (f : X → Y) (xs : List X) → position p (map f xs) ≡ position (λ x. p (f x)) xs
position-map p f xs = (λ i. cond (ltb (first_after-map p f xs i) (length-map xs f i)) (Some (first_after-map p f xs i)) None)

-- ---- the first name that is the same

number_at : (names : List (List ℕ)) (x : List ℕ) (k : ℕ) → number_from (suc k) names x ≡ numbered (position_from (λ name. same_name name x) k names)
number_at [] x k = refl
number_at (name ∷ names) x k = grind (arith, common_steps, number_at names x (k + 1))

module _ (names : List (List ℕ)) (x : List ℕ) where
  none_at : place_of names x ≡ None → (i : ℕ) → i < length names → same_name (get_or names i []) x ≡ false
  none_at h i within =
      let all : length names ≤ position_or_len (λ name. same_name name x) names = grind (arith, nat_tests, common_steps) in
      fails_before_first (λ name. same_name name x) names i [] (omega arith)

  pub placed : (o : Option ℕ) → o ≡ place_of names x → Numbers names x (numbered o)
  placed o h = both o h (ap numbered (h ∙ position_from-zero (λ name. same_name name x) names) ∙ sym (number_at names x 0))
    where
      both : (o : Option ℕ) → o ≡ place_of names x → numbered o ≡ number_of names x → Numbers names x (numbered o)
      both None h value = record { value = value; within = omega arith; same = λ some. absurd (omega arith); none = λ _. none_at (sym h) }
      both (Some i) h value =
          let here = position-Some (λ name. same_name name x) names i [] (sym h) in
          let back : i + 1 - 1 ≡ i = omega arith in
          record {
            value = value;
            within = omega (arith, here.0);
            same = λ _. ap (λ k. same_name (get_or names k []) x) back ∙ here.1;
            none = λ none. absurd (omega arith);
          }

pub names_length : {X : Type 0} (f : X → List ℕ) (names : List X) → length (names_of f names) ≡ length names
names_length f names = length-map names f

-- ---- the names of a book

module _ (names : List (List ℕ)) where
  good_from_following : 0 < length names → length names ≤ 64 → ((j : ℕ) → j < length names → FollowsEarlier names j) → GoodNames names
  good_from_following some few each = record {
    some = some;
    few = few;
    sized = λ i h. ((each i h).some, (each i h).few);
    apart = λ i j h.
        let upto : j ≤ length names = omega arith in
        sym (ap (λ n. same_name n (get_or names j [])) (get_or-take j names i [] h.0)) ∙ (each j h.1).new i (omega (arith, length-take-le j names upto));
  }

  following_from_good : GoodNames names → (j : ℕ) → j < length names → FollowsEarlier names j
  following_from_good good j h =
      let upto : j ≤ length names = omega arith in
      record {
        some = (good.sized j h).0;
        few = (good.sized j h).1;
        new = λ i k. let lower : i < j = omega (arith, length-take-le j names upto) in ap (λ n. same_name n (get_or names j [])) (get_or-take j names i [] lower) ∙ good.apart i j (lower, h);
      }

  -- what was found of each place says whether the names are good
  pub good_where_all : (n : ℕ) (r : Bool) → n ≡ length names → 0 < n → n ≤ 64 → MatchBool r (AllWithin (FollowsEarlier names) (range_with_len 0 n) 0 (length (range_with_len 0 n))) ((k : ℕ) × (k < length (range_with_len 0 n)) × HoldsAt (λ i. FollowsEarlier names i → ⊥) (range_with_len 0 n) k) → Decides r (GoodNames names)
  good_where_all n true is some few each = (
    λ _. good_from_following (omega arith) (omega arith) (λ j h. let within : j < n = omega arith in let here : get_or (range_with_len 0 n) j 0 ≡ j = omega (arith, get_or-range_with_len 0 n j 0 within) in subst (FollowsEarlier names) here (each j 0 (omega arith) (omega (arith, length-range_with_len 0 n)))),
    λ _. refl,
  )
  good_where_all n false is some few (k, within, other) = (
    λ e. absurd (false≢true e),
    λ good.
        let lower : k < n = omega (arith, length-range_with_len 0 n) in
        absurd (other 0 (following_from_good good (get_or (range_with_len 0 n) k 0) (omega (arith, get_or-range_with_len 0 n k 0 lower)))),
  )

moved : {a b : List (List ℕ)} {x y : List ℕ} → a ≡ b → x ≡ y → Follows a x → Follows b y
moved {a} {b} {x} {y} p q h = subst (λ n. Follows b n) q (subst (λ l. Follows l x) p h)

-- the name at index i and those before it, as they are lent
module _ (names : List (Bor (List ℕ))) (i : ℕ) (d : Bor (List ℕ)) (within : i < length names) where
  front_is : lent_names (take i names) ≡ take i (lent_names names)
  front_is = sym (take-map (λ n. n.now) i names)

  name_is : (get_or names i d).now ≡ get_or (lent_names names) i []
  name_is = sym (get_or-map (λ n. n.now) names i d [] within)

  pub follows_from_lent : Follows (lent_names (take i names)) (get_or names i d).now → FollowsEarlier (lent_names names) i
  follows_from_lent = moved front_is name_is

  pub lent_from_follows : FollowsEarlier (lent_names names) i → Follows (lent_names (take i names)) (get_or names i d).now
  lent_from_follows = moved (sym front_is) (sym name_is)

-- ---- copies of lent names

-- a list with a place has an element
element : {X : Type 0} (xs : List X) (k : ℕ) → k < length xs → X
element [] k h = absurd (omega arith)
element (x ∷ xs) k h = x

module _ {X S T : Type 0} (f : X → List ℕ) {steps : S → Option (Result Name AllocError) → S → Type 0} {source : T → Option (Bor X) → T → Type 0} (p : Run steps) (q : Run source) (R : Bor X → Result Name AllocError → Type 0) (copies : (x : Bor X) (n : Name) → R x (Ok n) → vec_items n.octets ≡ f x.now) where
  one_copied : (names : List X) (k : ℕ) (made : Option (Result Name AllocError)) (lent : Option (Bor X)) (n : Name) → k < length names → IsSomeRelated (λ x y. Ok y ≡ x) made n → IfSome made (λ y. IsSomeAnd lent (λ x. R x y)) → IfSome lent (λ x. HoldsAt (λ y. x.now ≡ y) names k) → vec_items n.octets ≡ get_or (names_of f names) k []
  one_copied names k None lent n within is made at = absurd is
  one_copied names k (Some r) None n within is made at = absurd made
  one_copied names k (Some r) (Some x) n within is made at =
      copies x n (subst (R x) (sym is) made) ∙ ap f (at x.now) ∙ sym (get_or-map f names k x.now [] within)

  -- the names that were collected, each made of the one at its place
  pub copied : (names : List X) (ns : List Name) → length ns ≡ p.len → p.len ≡ length names → ((k : ℕ) (d : Name) → k < p.len → IsSomeRelated (λ x y. Ok y ≡ x) (p.at k) (get_or ns k d)) → RelatesRuns p q R → ((k : ℕ) → IfSome (q.at k) (λ x. HoldsAt (λ y. x.now ≡ y) names k)) → own_names ns ≡ names_of f names
  copied names ns long len each made at =
      ext_get_or [] (own_names ns) (names_of f names) (omega (arith, names_length (λ n. vec_items n.octets) ns, names_length f names)) (λ k h.
      let within : k < length ns = omega (arith, names_length (λ n. vec_items n.octets) ns) in
      let n = element ns k within in
      get_or-map (λ n. vec_items n.octets) ns k n [] within ∙ one_copied names k (p.at k) (q.at k) (get_or ns k n) (omega arith) (each k n (omega arith)) (made.1 k) (at k))
