-- Octets in print: two hexadecimal digits each, the high one first, or `-` where there are none.
use Rattle.std.specs.Prelude.{ℕ, ◌+◌, ◌/◌, ◌%◌, cond, List, [], ◌∷◌, nat_lt}
use Rattle.std.specs.List.{flat_map}

-- the digit of a value below 16, a capital past 9
abbrev pub digit_text : ℕ → ℕ
digit_text d = cond (nat_lt d 10) (0x30 + d) (0x37 + d)

-- the two digits of an octet
abbrev pub octet_text : ℕ → List ℕ
octet_text x = digit_text (x / 16) ∷ digit_text (x % 16) ∷ []

-- the word that is written of octets
abbrev pub octets_text : List ℕ → List ℕ
octets_text [] = 0x2D ∷ []
octets_text (x ∷ xs) = flat_map octet_text (x ∷ xs)
