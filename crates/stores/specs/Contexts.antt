-- Contexts, and what a list of them has for a UE and a session.
use Rattle.std.specs.Prelude.{◌≡◌, ℕ, ◌<◌, ◌≤◌, Bool, true, false, cond, not, ◌&&◌, List, [], ◌∷◌, is_some, Some, None, Option, MatchOption, ◌==◌, nat_lt}
use Rattle.std.specs.List.{count_by, find, range_with_len}
use Rattle.stores.specs.declared.context.Context.{Context}

-- a UE number is at least 1, and a session 1 to 15
abbrev pub pair_fits : ℕ → ℕ → Bool
pair_fits u k = nat_lt 0 u && (nat_lt 0 k && nat_lt k 16)

-- an SMF ID is at least 1, and a DNN number 64 at most
abbrev pub fits : Context → Bool
fits c = pair_fits c.ue c.session && (nat_lt 0 c.smf && nat_lt c.dnn 65)

-- the context is in bounds, if there is one
abbrev pub in_bounds : Option Context → Bool
in_bounds None = true
in_bounds (Some c) = fits c

-- the context is of session k of UE u
abbrev pub is_of : ℕ → ℕ → Context → Bool
is_of u k c = c.ue == u && c.session == k

-- the context of session k of UE u
abbrev pub lookup : List Context → ℕ → ℕ → Option Context
lookup xs u k = find (is_of u k) xs

-- each session of each UE has at most one context
abbrev pub Once : List Context → Type 0
Once [] = Unit {0}
Once (c ∷ cs) = (lookup cs c.ue c.session ≡ None) × Once cs

-- session j of UE u is another one than session k, and has a context
abbrev pub other_at : List Context → ℕ → ℕ → ℕ → Bool
other_at xs u k j = not (j == k) && is_some (lookup xs u j)

-- the sessions that a UE can have
abbrev pub sessions : List ℕ
sessions = range_with_len 1 15

-- how many other sessions of UE u than session k have a context
abbrev pub others_of : List Context → ℕ → ℕ → ℕ
others_of xs u k = count_by (other_at xs u k) sessions

abbrev pub is_emergency : Option Context → Bool
is_emergency None = false
is_emergency (Some c) = c.emergency

-- session j of UE u is another one than session k, and has an emergency context
abbrev pub emergency_at : List Context → ℕ → ℕ → ℕ → Bool
emergency_at xs u k j = not (j == k) && is_emergency (lookup xs u j)

-- the lowest other session of UE u than session k that has an emergency context
abbrev pub lowest_emergency : List Context → ℕ → ℕ → Option ℕ
lowest_emergency xs u k = find (emergency_at xs u k) sessions

-- the lowest session at which the test passes
abbrev pub Lowest : (ℕ → Bool) → Option ℕ → Type 0
Lowest t r =
    MatchOption r ((j : ℕ) → 0 < j → j ≤ 15 → t j ≡ false) (λ m. (0 < m) × (m ≤ 15) × (t m ≡ true) × ((j : ℕ) → 0 < j → j < m → t j ≡ false))

-- the context is of another session of UE u than session k
abbrev pub is_other : ℕ → ℕ → Context → Bool
is_other u k c = c.ue == u && not (c.session == k)

-- its session, if it is an emergency context of another session of UE u than session k
abbrev pub other_emergency : ℕ → ℕ → Context → Option ℕ
other_emergency u k c = cond (is_other u k c && c.emergency) (Some c.session) None
