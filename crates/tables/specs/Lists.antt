-- Sums over lists.
use Rattle.std.specs.Prelude.{ℕ, ◌+◌, List, [], ◌∷◌}

-- what all elements come to together
abbrev pub sum_of : {R : Type 0} → (R → ℕ) → List R → ℕ
sum_of f [] = 0
sum_of f (x ∷ xs) = f x + sum_of f xs
