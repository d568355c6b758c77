-- What the turning directory answers, and what its last ID is then.
use Rattle.std.specs.Prelude.{◌≡◌, ℕ, Bool, true, Ok, Err, Result, ◌≢◌}
use Rattle.directories.specs.declared.no_smf.NoSmf.{NoSmf}
use Rattle.directories.specs.Turns.{InTurn}

-- the last ID is the one that was chosen last
abbrev pub Turned : (ℕ → Bool) → ℕ → ℕ → Result ℕ NoSmf → Type 0
Turned serves last after (Err _) = after ≡ last
Turned serves last after (Ok m) = InTurn serves last m × (after ≡ m)

-- two SMFs serve
abbrev pub TwoServe : (ℕ → Bool) → Type 0
TwoServe serves = (a : ℕ) × ((b : ℕ) × (a ≢ b) × (serves a ≡ true) × (serves b ≡ true))
