-- Whose turn it is, going round the SMF IDs that serve.
use Rattle.std.specs.Prelude.{◌≡◌, ℕ, ◌<◌, ◌≤◌, Bool, true, false, not, ◌&&◌, ◌||◌, List, Some, None, Option, nat_le, nat_lt}
use Rattle.std.specs.List.{list_any}
use Rattle.directories.specs.declared.served_set.ServedSet.{ServedSet}
use Rattle.directories.specs.Sets.{set_for, sets_serve}

-- r is the lowest above the bound that serves, where one does
abbrev pub Lowest : (ℕ → Bool) → ℕ → Option ℕ → Type 0
Lowest serves bound None = (m : ℕ) → bound < m → serves m ≡ false
Lowest serves bound (Some r) = (serves r ≡ true) × (bound < r) × ((m : ℕ) → bound < m → serves m ≡ true → r ≤ m)

-- it is m's turn after the last one: m serves, and is the lowest that serves above the last one, or the lowest of all
-- where none that serves is above
pub record InTurn (serves : ℕ → Bool) (last m : ℕ) : Type 0 where
  pub serving : serves m ≡ true
  pub above : last < m → (k : ℕ) → serves k ≡ true → last < k → m ≤ k
  pub round : m ≤ last → (k : ℕ) → serves k ≡ true → (k ≤ last) × (m ≤ k)

-- r is the one whose turn it is after the last one, where one serves
abbrev pub Next : (ℕ → Bool) → ℕ → Option ℕ → Type 0
Next serves last None = (m : ℕ) → serves m ≡ false
Next serves last (Some r) = InTurn serves last r

-- going up from the last one and round, a comes before b
abbrev pub sooner : ℕ → ℕ → ℕ → Bool
sooner last a b = (nat_lt last a && nat_le b last) || (nat_lt a b && (nat_lt last a || nat_le b last))

-- m serves, and none that serves comes before it
abbrev pub takes_next : List ServedSet → ℕ → ℕ → ℕ → ℕ → Bool
takes_next sets last s n m = sets_serve sets s n m && not (list_any (λ x. set_for x s n && sooner last x.smf m) sets)
