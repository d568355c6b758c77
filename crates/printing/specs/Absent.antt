-- What is written of a value that may be absent.
use Rattle.std.specs.Prelude.{ℕ, List, [], ◌∷◌, Some, None, Option}

-- what the value shows, or `-` where there is none
abbrev pub shown_or_dash : {X : Type 0} → (X → Option (List ℕ)) → Option X → Option (List ℕ)
shown_or_dash shown None = Some (0x2D ∷ [])
shown_or_dash shown (Some x) = shown x
