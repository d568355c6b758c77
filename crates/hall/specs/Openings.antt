-- What the words behind `open` ask for.
use Rattle.std.specs.Prelude.{ℕ, cond, List, length, Some, None, Option, ◌==◌}
use Rattle.hall.specs.declared.opening.Opening.{Opening}
use Rattle.hall.specs.Changes.{where_some, byte_in, at}
use Rattle.hall.specs.Numerals.{u32_in, pair_of}

abbrev pub open_of : List ℕ → List ℕ → List ℕ → List ℕ → List ℕ → List ℕ → Option Opening
open_of s n t k m f =
    where_some (pair_of s n) (λ usual. where_some (pair_of t k) (λ emergency. where_some (byte_in m) (λ smf. where_some (u32_in f) (λ first.
    Some (record { configuration = record { default = usual; emergency = emergency; static_emergency_smf = smf }; first = first })))))

abbrev pub open_words : List (List ℕ) → Option Opening
open_words words =
    cond (length words == 6) (open_of (at words 0) (at words 1) (at words 2) (at words 3) (at words 4) (at words 5)) None
