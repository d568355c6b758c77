-- One information element: its first octet x, and the octets behind it.
use Rattle.std.specs.Prelude.{ℕ, ◌+◌, ◌*◌, Bool, cond, ◌||◌, List, length, take, drop, Ok, Result, ◌==◌, nat_lt, slice_index}
use Rattle.codes.specs.declared.refusal.Refusal.TheVariants.{Overrun, ElementKind}
use Rattle.codes.specs.Refusals.{refuse}

abbrev pub octet : List ℕ → ℕ → ℕ
octet xs i = slice_index xs i

-- two octets as one number, the high one first
abbrev pub pair : List ℕ → ℕ
pair xs = 256 * octet xs 0 + octet xs 1

abbrev pub session_kind : ℕ → Bool
session_kind x = x == 0x12 || x == 0x59

-- how many octets its length takes
abbrev pub octets_of_length : ℕ → ℕ
octets_of_length x = cond (session_kind x) 0 (cond (nat_lt x 0x70) 1 (cond (nat_lt x 0x80) 2 0))

-- how many octets its contents take
abbrev pub contents_length : ℕ → List ℕ → ℕ
contents_length x rest =
    cond (session_kind x) 1 (cond (nat_lt x 0x70) (octet rest 0) (cond (nat_lt x 0x80) (pair rest) 0))

-- what an element takes behind its first octet
pub record Extent : Type 0 where
  pub size : ℕ
  pub contents : List ℕ

abbrev pub element : ℕ → List ℕ → Result Extent ℕ
element x rest =
    cond (nat_lt x 0x10) (refuse ElementKind)
    (cond (nat_lt (length rest) (octets_of_length x + contents_length x rest)) (refuse Overrun)
    (Ok (record { size = octets_of_length x + contents_length x rest; contents = take (contents_length x rest) (drop (octets_of_length x) rest) })))
