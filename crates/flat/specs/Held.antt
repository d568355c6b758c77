-- What a row of a flat store has: a context in bounds, or none.
use Rattle.std.specs.Prelude.{ℕ, Bool, false, ◌&&◌, Some, None, Option, nat_lt}
use Rattle.stores.specs.declared.context.Context.{Context}
use Rattle.stores.specs.Contexts.{is_other, other_emergency}

-- how many rows a flat store may have
abbrev pub rows_fit : ℕ → Bool
rows_fit n = nat_lt 15 n && nat_lt n 257

-- it is of another session of UE u than session k
abbrev pub held_other : ℕ → ℕ → Option Context → Bool
held_other u k None = false
held_other u k (Some c) = is_other u k c

-- its session, if it is an emergency context of another session of UE u than session k
abbrev pub held_emergency : ℕ → ℕ → Option Context → Option ℕ
held_emergency u k None = None
held_emergency u k (Some c) = other_emergency u k c
