-- The words of a line.
use Rattle.std.specs.Prelude.{ℕ, ◌<◌, Bool, cond, ◌&&◌, List, [], ◌∷◌, ◌++◌, length, ◌==◌, ◌≢◌, nat_lt, slice_index}
use Rattle.std.specs.Borrow.{Bor}
use Rattle.std.specs.List.{AllByRecursion}

-- what a slice of octets holds
abbrev pub text : Bor (List ℕ) → List ℕ
text r = r.now

abbrev pub begins_with : ℕ → List ℕ → Bool
begins_with x xs = nat_lt 0 (length xs) && slice_index xs 0 == x

-- w before ws, unless w is empty
abbrev pub word_before : List ℕ → List (List ℕ) → List (List ℕ)
word_before [] ws = ws
word_before (x ∷ w) ws = (x ∷ w) ∷ ws

-- the words of what is left, where w is the run that it goes on from
abbrev pub words_after : List ℕ → List ℕ → List (List ℕ)
words_after w [] = word_before w []
words_after w (x ∷ xs) = cond (x == 0x20) (word_before w (words_after [] xs)) (words_after (w ++ x ∷ []) xs)

-- the longest runs of octets other than a space
abbrev pub words : List ℕ → List (List ℕ)
words xs = words_after [] xs

-- one octet or more, and no space
abbrev pub Word : List ℕ → Type 0
Word w = (0 < length w) × AllByRecursion (λ x. x ≢ 0x20) w

-- words with one space between each two
abbrev pub spaced : List (List ℕ) → List ℕ
spaced [] = []
spaced (w ∷ []) = w
spaced (w ∷ v ∷ ws) = w ++ 0x20 ∷ spaced (v ∷ ws)
