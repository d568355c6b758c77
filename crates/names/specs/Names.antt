-- DNN names: when two are the same, which ones a book can have, and how a book numbers them.
use Rattle.std.specs.Prelude.{◌≡◌, ℕ, suc, ◌+◌, ◌-◌, ◌<◌, ◌≤◌, Bool, true, false, cond, ◌&&◌, List, [], ◌∷◌, map, take, length, Some, None, Option, Decides, ◌==◌, slice_index_or}

-- how many names a book has at most
abbrev pub max_names : ℕ
max_names = 64

-- how many octets the longest name has
abbrev pub max_name : ℕ
max_name = 100

abbrev pub same_octet : ℕ → ℕ → Bool
same_octet x y = x == y

-- octet by octet
unfoldable pub same_name : List ℕ → List ℕ → Bool
same_name [] [] = true
same_name [] (y ∷ ys) = false
same_name (x ∷ xs) [] = false
same_name (x ∷ xs) (y ∷ ys) = same_octet x y && same_name xs ys

-- r says whether xs and ys are the same name, which they are exactly where their octets are equal
pub record Same (xs ys : List ℕ) (r : Bool) : Type 0 where
  pub value : r ≡ same_name xs ys
  pub equal : Decides r (xs ≡ ys)

-- the octets of each name, which f gives
abbrev pub names_of : {X : Type 0} → (X → List ℕ) → List X → List (List ℕ)
names_of f ns = map f ns

-- each has 1 to 100 octets
abbrev pub Sized : List (List ℕ) → Type 0
Sized names = (i : ℕ) → i < length names → (0 < length (slice_index_or names i [])) × (length (slice_index_or names i []) ≤ max_name)

-- no two are the same
abbrev pub Apart : List (List ℕ) → Type 0
Apart names =
    (i j : ℕ) → (i < j) × (j < length names) → same_name (slice_index_or names i []) (slice_index_or names j []) ≡ false

-- names that a book can have
pub record GoodNames (names : List (List ℕ)) : Type 0 where
  pub some : 0 < length names
  pub few : length names ≤ max_names
  pub sized : Sized names
  pub apart : Apart names

-- a name that can follow these in a book
pub record Follows (earlier : List (List ℕ)) (name : List ℕ) : Type 0 where
  pub some : 0 < length name
  pub few : length name ≤ max_name
  pub new : (i : ℕ) → i < length earlier → same_name (slice_index_or earlier i []) name ≡ false

-- the name at place i can follow those before it
abbrev pub FollowsEarlier : List (List ℕ) → ℕ → Type 0
FollowsEarlier names i = Follows (take i names) (slice_index_or names i [])

-- the number of the first name that is the same as x, where the names are numbered from k on, else 0
abbrev pub number_from : ℕ → List (List ℕ) → List ℕ → ℕ
number_from k [] x = 0
number_from k (name ∷ names) x = cond (same_name name x) k (number_from (suc k) names x)

abbrev pub number_of : List (List ℕ) → List ℕ → ℕ
number_of names x = number_from 1 names x

-- the number of the name at a place, where places are counted from 0; none has the number 0
abbrev pub numbered : Option ℕ → ℕ
numbered None = 0
numbered (Some i) = i + 1

-- r is the number of the name that is the same as x, and 0 where none is
pub record Numbers (names : List (List ℕ)) (x : List ℕ) (r : ℕ) : Type 0 where
  pub value : r ≡ number_of names x
  pub within : r ≤ length names
  pub same : 0 < r → same_name (slice_index_or names (r - 1) []) x ≡ true
  pub none : r ≡ 0 → (i : ℕ) → i < length names → same_name (slice_index_or names i []) x ≡ false
