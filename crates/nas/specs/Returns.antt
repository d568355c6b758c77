-- The octets of a return, and what writing one does.
use Rattle.std.specs.Prelude.{◌≡◌, ℕ, ◌+◌, ◌/◌, ◌%◌, cond, ◌&&◌, List, [], ◌∷◌, ◌++◌, length, take, drop, Some, None, Ok, Err, Option, Result, nat_le, nat_lt}
use Rattle.codes.specs.declared.cause.Cause.{Cause}
use Rattle.codes.specs.declared.refusal.Refusal.TheVariants.{PayloadLength, SessionBounds, OutputLength}
use Rattle.codes.specs.Causes.{cause_number, back_off_octet}
use Rattle.codes.specs.Refusals.{refuse}
use Rattle.nas.specs.Uplinks.{in_range, max_payload}

-- how many octets a return takes besides its payload, with the longest cause
abbrev pub return_overhead : ℕ
return_overhead = 13

abbrev pub return_header : List ℕ
return_header = 0x7E ∷ 0x00 ∷ 0x68 ∷ 0x01 ∷ []

-- the element that says how long to back off
abbrev pub back_off_element : Option ℕ → List ℕ
back_off_element None = []
back_off_element (Some octet) = 0x37 ∷ 1 ∷ octet ∷ []

abbrev pub returned : List ℕ → ℕ → Cause → List ℕ
returned payload session cause =
    return_header ++ ((length payload / 256 ∷ length payload % 256 ∷ []) ++ (payload ++ ((0x12 ∷ session ∷ 0x58 ∷ cause_number cause ∷ []) ++ back_off_element (back_off_octet cause))))

-- xs with ys written over it from place i on
abbrev pub overwritten : List ℕ → ℕ → List ℕ → List ℕ
overwritten xs i ys = take i xs ++ (ys ++ drop (i + length ys) xs)

-- the length of the return, or why it is not written
abbrev pub return_length : List ℕ → List ℕ → ℕ → Cause → Result ℕ ℕ
return_length output payload session cause =
    cond (nat_lt 0 (length payload) && nat_le (length payload) max_payload)
    (cond (in_range session)
    (cond (nat_lt (length output) (length payload + return_overhead)) (refuse OutputLength) (Ok (length (returned payload session cause))))
    (refuse SessionBounds))
    (refuse PayloadLength)

-- what the output holds afterwards
abbrev pub return_output : List ℕ → List ℕ → ℕ → Cause → Result ℕ ℕ → List ℕ
return_output output payload session cause (Ok n) = returned payload session cause ++ drop n output
return_output output payload session cause (Err e) = output

-- what writing a return answers, and what the output holds then
pub record Returns (before payload : List ℕ) (session : ℕ) (cause : Cause) (answer : Result ℕ ℕ) (after : List ℕ) : Type 0 where
  pub value : answer ≡ return_length before payload session cause
  pub output : after ≡ return_output before payload session cause answer
