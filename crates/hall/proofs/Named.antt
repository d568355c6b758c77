-- The names of a book, read one after another.
use Rattle.std.proofs.Common.{◌≡◌, ℕ, List, ◌++◌, map, drop, Option, Bor}
use Rattle.std.specs.Option.{option_map}
use Rattle.scenario.specs.Words.{text}
use Rattle.hall.specs.Changes.{names_in}

-- the names read, before those of what is left
abbrev pub before : List (List ℕ) → Option (List (List ℕ)) → Option (List (List ℕ))
before names rest = option_map (λ more. names ++ more) rest

-- the names read, and those of the words from i on, are those of all words
abbrev pub ReadSoFar : List (Bor (List ℕ)) → List (List ℕ) → ℕ → Type 0
ReadSoFar ws names i = before names (names_in (map text (drop i ws))) ≡ names_in (map text ws)
