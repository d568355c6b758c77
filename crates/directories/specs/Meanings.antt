-- What is so of any directory, over a slice, a DNN number and an SMF ID.
use Rattle.std.specs.Prelude.{◌≡◌, ℕ, Bool, true, false}

-- at most one is taken
abbrev pub Sole : (ℕ → ℕ → ℕ → Bool) → Type 0
Sole takes = (s n m k : ℕ) → takes s n m ≡ true → takes s n k ≡ true → m ≡ k

pub record Lawful (serves takes : ℕ → ℕ → ℕ → Bool) : Type 0 where
  -- none serves DNN number 0
  pub numbered : (s m : ℕ) → serves s 0 m ≡ false
  -- 0 is no SMF's ID
  pub identified : (s n : ℕ) → serves s n 0 ≡ false
  -- what is taken serves
  pub among : (s n m : ℕ) → takes s n m ≡ true → serves s n m ≡ true
