-- What becomes of a directory where a line is added.
use Rattle.std.specs.Prelude.{◌≡◌, ℕ, ◌+◌, ◌<◌, ◌≤◌, true, false, cond, ◌||◌, List, [], ◌∷◌, ◌++◌, length, Result, MatchResult}
use Rattle.codes.specs.declared.refusal.Refusal.{Refusal}
use Rattle.codes.specs.declared.refusal.Refusal.TheVariants.{Opening}
use Rattle.codes.specs.declared.setup_error.SetupError.{SetupError}
use Rattle.codes.specs.declared.setup_error.SetupError.TheVariants.{Refused, OutOfMemory}
use Rattle.codes.specs.Refusals.{refusal_number}
use Rattle.directories.specs.declared.served_set.ServedSet.{ServedSet}
use Rattle.directories.specs.declared.service_line.ServiceLine.{ServiceLine}
use Rattle.directories.specs.Lines.{capacity, line_serves, lines_serve, lines_refuse}
use Rattle.directories.specs.Sets.{sets_serve, line_pair, holds_pair, sets_refuse}

-- the refusal of whatever a directory does not take
abbrev pub IsRefusal : Refusal → Type 0
IsRefusal r = refusal_number r ≡ refusal_number Opening

-- there was room for an item more, and it stands behind the others
pub record Pushed {X : Type 0} (xs : List X) (x : X) (after : List X) : Type 0 where
  pub room : length xs < capacity
  pub last : after ≡ xs ++ x ∷ []

-- nothing changes: there is no room for it, or no memory
abbrev pub Unpushed : {X : Type 0} → List X → List X → SetupError → Type 0
Unpushed xs after (Refused r) = IsRefusal r × (capacity ≤ length xs) × (after ≡ xs)
Unpushed xs after OutOfMemory = (length xs < capacity) × (after ≡ xs)

-- one of the two, by the result
abbrev pub Pushing : {X : Type 0} → List X → X → List X → Result Unit SetupError → Type 0
Pushing xs x after r = MatchResult r (λ _. Pushed xs x after) (λ e. Unpushed xs after e)

-- the line is not one to refuse, and stands behind the others, so that its SMF serves too
pub record Added (lines : List ServiceLine) (line : ServiceLine) (after : List ServiceLine) : Type 0 where
  pub good : lines_refuse lines line ≡ false
  pub last : after ≡ lines ++ line ∷ []
  pub serving : (s n m : ℕ) → lines_serve after s n m ≡ (lines_serve lines s n m || line_serves line s n m)

-- nothing changes: the line is one to refuse, or there is no memory for it
abbrev pub Unadded : List ServiceLine → ServiceLine → List ServiceLine → SetupError → Type 0
Unadded lines line after (Refused r) = IsRefusal r × (lines_refuse lines line ≡ true) × (after ≡ lines)
Unadded lines line after OutOfMemory = (lines_refuse lines line ≡ false) × (after ≡ lines)

-- one of the two, by the result
abbrev pub Adding : List ServiceLine → ServiceLine → List ServiceLine → Result Unit SetupError → Type 0
Adding lines line after r = MatchResult r (λ _. Added lines line after) (λ e. Unadded lines line after e)

-- by the sets the line's SMF now serves its slice and DNN, and all else is as it was
pub record Joined (sets : List ServedSet) (line : ServiceLine) (after : List ServedSet) : Type 0 where
  pub good : sets_refuse sets line ≡ false
  pub serving : (s n m : ℕ) → sets_serve after s n m ≡ (sets_serve sets s n m || line_serves line s n m)
  pub pairs : (s m : ℕ) → holds_pair after s m ≡ (holds_pair sets s m || line_pair line s m)
  pub count : length after ≡ cond (holds_pair sets line.slice line.smf) (length sets) (length sets + 1)

-- nothing changes: the line is one to refuse, or there is no memory for a new pair
abbrev pub Unjoined : List ServedSet → ServiceLine → List ServedSet → SetupError → Type 0
Unjoined sets line after (Refused r) = IsRefusal r × (sets_refuse sets line ≡ true) × (after ≡ sets)
Unjoined sets line after OutOfMemory = (sets_refuse sets line ≡ false) × (holds_pair sets line.slice line.smf ≡ false) × (after ≡ sets)

-- one of the two, by the result
abbrev pub Joining : List ServedSet → ServiceLine → List ServedSet → Result Unit SetupError → Type 0
Joining sets line after r = MatchResult r (λ _. Joined sets line after) (λ e. Unjoined sets line after e)
