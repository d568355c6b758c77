-- The lines of a scenario, and what reading a message prints.
use Rattle.std.specs.Prelude.{◌≡◌, ℕ, ◌-◌, Bool, true, false, ◌||◌, ◌⊎◌, List, [], ◌∷◌, ◌++◌, map, length, Some, None, Ok, Err, vec_items, codes, decimal, Option, Result, Vec, MatchOption, ◌==◌, ◌≢◌, slice_index}
use Rattle.std.specs.Option.{unwrap_or}
use Rattle.std.specs.Borrow.{Bor}
use Rattle.std.specs.declared.alloc.Global.{Global}
use Rattle.nas.specs.Uplinks.{Message}
use Rattle.printing.specs.Octets.{octets_text}
use Rattle.printing.specs.Slice.{slice_octets}
use Rattle.scenario.specs.Octets.{octets_in}
use Rattle.scenario.specs.Words.{text, begins_with, words}

-- the line xs without the line feed at its end, if it has one
abbrev pub Unended : List ℕ → List ℕ → Type 0
Unended xs ys = (xs ≡ ys ++ 0x0A ∷ []) ⊎ ((ys ≡ xs) × (slice_index xs (length xs - 1) ≢ 0x0A))

-- a comment, or no word at all
abbrev pub silent : List ℕ → Bool
silent line = begins_with 0x23 line || length (words line) == 0

-- the words of a line, and none of a line that asks for nothing
abbrev pub WordsOf : List ℕ → Option (Vec (Bor (List ℕ)) Global) → Type 0
WordsOf line o =
    MatchOption o (silent line ≡ true) (λ v. (silent line ≡ false) × (map text (vec_items v) ≡ words line))

-- of the line of this number, which is no command
abbrev pub error_line : ℕ → List ℕ
error_line number = codes "error " ++ decimal number

-- ---- the command `read`

-- the octets of the one word behind `read`
abbrev pub operand_in : List (List ℕ) → Option (List ℕ)
operand_in [] = None
operand_in (word ∷ []) = octets_in word
operand_in (word ∷ more ∷ rest) = None

-- the text of a value, or `-` where it is absent
abbrev pub or_dash : {X : Type 0} → (X → List ℕ) → Option X → List ℕ
or_dash text None = codes "-"
or_dash text (Some x) = text x

abbrev pub message_line : Message → List ℕ
message_line m =
    codes "read payload " ++ (octets_text m.payload
    ++ (codes " session " ++ (decimal m.session
    ++ (codes " old " ++ (or_dash decimal m.old
    ++ (codes " request " ++ (or_dash decimal m.request
    ++ (codes " slice " ++ (or_dash (λ s. octets_text (slice_octets s)) m.slice
    ++ (codes " dnn " ++ octets_text (unwrap_or m.dnn [])))))))))))

abbrev pub read_line : Result Message ℕ → List ℕ
read_line (Ok m) = message_line m
read_line (Err n) = codes "read refused " ++ decimal n
