-- The numbers that a PDU session of a UE can have.
use Rattle.std.specs.Prelude.{ℕ, ◌+◌, Bool, ◌&&◌, nat_lt}

-- the highest number that a session has
abbrev pub max_session : ℕ
max_session = 15

abbrev pub session_fits : ℕ → Bool
session_fits k = nat_lt 0 k && nat_lt k (max_session + 1)
