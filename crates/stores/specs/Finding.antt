-- What is found in a store after a call. It follows from what the calls mean, so it holds of every store.
use Rattle.std.specs.Prelude.{◌≡◌, ℕ, ◌<◌, Bool, true, false, ◌&&◌, if◌then◌else◌, List, length, is_ok, Some, None, Result, ◌==◌}
use Rattle.stores.specs.declared.context.Context.{Context}
use Rattle.stores.specs.declared.no_room.NoRoom.{NoRoom}
use Rattle.stores.specs.Contexts.{pair_fits, fits, is_of, lookup}
use Rattle.stores.specs.Stores.{Laws, Puts, Removes}

-- after a put of c, which is done or not: it is found if it is done, and what stood stays if not
pub record FoundAfterPut (c : Context) (xs ys : List Context) (done : Bool) : Type 0 where
  pub stands : lookup ys c.ue c.session ≡ (if done then Some c else lookup xs c.ue c.session)
  pub others : (u k : ℕ) → is_of u k c ≡ false → lookup ys u k ≡ lookup xs u k

-- after a remove of session k of UE u
pub record FoundAfterRemove (u k : ℕ) (xs ys : List Context) : Type 0 where
  pub gone : lookup ys u k ≡ None
  pub others : (v j : ℕ) → (u == v && k == j) ≡ false → lookup ys v j ≡ lookup xs v j

pub record Law : Type 0 where
  -- what there is room for is put and found, and nothing else is touched
  pub put : (c : Context) (xs ys : List Context) (room room' : ℕ → ℕ → Bool) (r : Result (Unit {0}) NoRoom) → is_ok r ≡ (fits c && room c.ue c.session) → Puts c xs ys room room' r → FoundAfterPut c xs ys (fits c && room c.ue c.session)
  -- what is removed is not found, and nothing else is touched
  pub remove : (u k : ℕ) (xs ys : List Context) (room room' : ℕ → ℕ → Bool) (r : Bool) → Removes u k xs ys room room' r → FoundAfterRemove u k xs ys
  -- while fewer contexts stand than the floor, there is room for every UE and session
  pub spare : (xs : List Context) (n : ℕ) (room : ℕ → ℕ → Bool) → Laws xs n room → length xs < n → (u k : ℕ) → pair_fits u k ≡ true → room u k ≡ true
