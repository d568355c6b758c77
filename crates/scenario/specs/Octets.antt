-- Octets read from text: two hexadecimal digits each, the high one first, or `-` where there are none.
use Rattle.std.specs.Prelude.{ℕ, ◌+◌, ◌-◌, ◌*◌, cond, ◌&&◌, List, [], ◌∷◌, length, Some, None, Option, ◌==◌, nat_le, slice_index}

-- the value of a hexadecimal digit, a capital or not
abbrev pub digit_in : ℕ → Option ℕ
digit_in c =
    cond (nat_le 0x30 c && nat_le c 0x39) (Some (c - 0x30))
    (cond (nat_le 0x41 c && nat_le c 0x46) (Some (c - 0x37))
    (cond (nat_le 0x61 c && nat_le c 0x66) (Some (c - 0x57)) None))

-- the octet of two digits, where both are known
abbrev pub octet_of : Option ℕ → Option ℕ → Option ℕ
octet_of None low = None
octet_of (Some h) None = None
octet_of (Some h) (Some l) = Some (h * 16 + l)

-- the octet of a word of two digits
abbrev pub octet_in : List ℕ → Option ℕ
octet_in xs = cond (length xs == 2) (octet_of (digit_in (slice_index xs 0)) (digit_in (slice_index xs 1))) None

-- an octet before others, where all are known
abbrev pub octet_before : Option ℕ → Option (List ℕ) → Option (List ℕ)
octet_before None xs = None
octet_before (Some x) None = None
octet_before (Some x) (Some xs) = Some (x ∷ xs)

-- the octets of a text that is pairs of digits
abbrev pub pairs_in : List ℕ → Option (List ℕ)
pairs_in [] = Some []
pairs_in (a ∷ []) = None
pairs_in (a ∷ b ∷ cs) = octet_before (octet_of (digit_in a) (digit_in b)) (pairs_in cs)

-- the octets of a word: one pair or more, or `-`
abbrev pub octets_in : List ℕ → Option (List ℕ)
octets_in [] = None
octets_in (a ∷ []) = cond (a == 0x2D) (Some []) None
octets_in (a ∷ b ∷ cs) = pairs_in (a ∷ b ∷ cs)
