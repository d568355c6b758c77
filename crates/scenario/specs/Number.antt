-- The number that a word writes.
use Rattle.std.specs.Prelude.{ℕ, ◌+◌, ◌-◌, ◌*◌, ◌^◌, cond, ◌&&◌, List, [], ◌∷◌, length, Some, None, Option, nat_lt}
use Rattle.std.specs.Str.{all_ascii_digits}

-- the number that decimal digits write, after those of n
abbrev pub number_after : ℕ → List ℕ → ℕ
number_after n [] = n
number_after n (c ∷ cs) = number_after (10 * n + (c - 0x30)) cs

-- the number of a word that is one digit or more, where 64 bits hold it
abbrev pub number_in : List ℕ → Option ℕ
number_in xs =
    cond (all_ascii_digits xs && (nat_lt 0 (length xs) && nat_lt (number_after 0 xs) (2 ^ 64))) (Some (number_after 0 xs)) None
