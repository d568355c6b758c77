-- What every store keeps to: the laws of its meaning, and what a put and a remove do to it.
use Rattle.std.specs.Prelude.{◌≡◌, ℕ, ◌+◌, ◌<◌, ◌≤◌, Bool, true, cond, ◌&&◌, List, length, is_some, Some, None, MatchBool, Result, MatchResult, ◌==◌}
use Rattle.stores.specs.declared.context.Context.{Context}
use Rattle.stores.specs.Contexts.{pair_fits, fits, is_of, lookup, Once}

-- what holds of every store with the contexts xs, the floor n and this room
pub record Laws (xs : List Context) (n : ℕ) (room : ℕ → ℕ → Bool) : Type 0 where
  pub once : Once xs
  pub bounds : (u k : ℕ) (c : Context) → lookup xs u k ≡ Some c → fits c ≡ true
  pub held : (u k : ℕ) → is_some (lookup xs u k) ≡ true → room u k ≡ true
  pub spare : (u k : ℕ) → length xs < n → pair_fits u k ≡ true → room u k ≡ true
  pub within : (u k : ℕ) → room u k ≡ true → pair_fits u k ≡ true
  pub enough : 16 ≤ n

-- ys is xs with c in the place of what xs had for c's UE and session
pub record Stored (c : Context) (xs ys : List Context) : Type 0 where
  pub at : (u k : ℕ) → lookup ys u k ≡ cond (is_of u k c) (Some c) (lookup xs u k)
  pub size : length ys ≡ length xs + cond (is_some (lookup xs c.ue c.session)) 0 1

-- nothing changed
pub record Same (xs ys : List Context) (room room' : ℕ → ℕ → Bool) : Type 0 where
  pub contexts : ys ≡ xs
  pub rooms : (u k : ℕ) → room' u k ≡ room u k

abbrev pub Puts : {E : Type 0} → Context → List Context → List Context → (ℕ → ℕ → Bool) → (ℕ → ℕ → Bool) → Result (Unit {0}) E → Type 0
Puts c xs ys room room' r = MatchResult r (λ _. Stored c xs ys) (λ _. Same xs ys room room')

-- ys is xs without the context of session k of UE u
pub record Removed (u k : ℕ) (xs ys : List Context) : Type 0 where
  pub at : (v j : ℕ) → lookup ys v j ≡ cond (u == v && k == j) None (lookup xs v j)
  pub size : length ys + 1 ≡ length xs

pub record Removes (u k : ℕ) (xs ys : List Context) (room room' : ℕ → ℕ → Bool) (r : Bool) : Type 0 where
  pub stood : r ≡ is_some (lookup xs u k)
  pub change : MatchBool r (Removed u k xs ys) (Same xs ys room room')
