-- What is written to a buffer that a host lends.
use Rattle.std.specs.Prelude.{◌≡◌, ℕ, ◌+◌, ◌≤◌, List, length, drop, Ok, Result, nat_le}
use Rattle.accounts.specs.Receives.{passing}
use Rattle.codes.specs.declared.cause.Cause.{Cause}
use Rattle.codes.specs.declared.refusal.Refusal.TheVariants.{OutputLength}
use Rattle.nas.specs.Returns.{returned, return_overhead}

-- the first n octets are written, and the others are as they were
pub record FrontWritten (n : ℕ) (before after : List ℕ) : Type 0 where
  pub within : n ≤ length after
  pub size : length after ≡ length before
  pub rest : drop n after ≡ drop n before

-- the length of the return of a payload, or the number of the refusal where an output of this length is too short for it
abbrev pub return_length : ℕ → List ℕ → ℕ → Cause → Result ℕ ℕ
return_length output payload session cause =
    passing (nat_le (length payload + return_overhead) output) OutputLength (Ok (length (returned payload session cause)))
