-- What setting and clearing a control line do, told by keys.
use Rattle.std.specs.Prelude.{◌≡◌, ℕ, ◌+◌, true, cond, List, length, is_some, Some, None, Option, Result, MatchResult}
use Rattle.codes.specs.declared.refusal.Refusal.{Refusal}
use Rattle.codes.specs.declared.refusal.Refusal.TheVariants.{ControlKind, ControlFull}
use Rattle.codes.specs.Refusals.{refusal_number, refuse, numbered}
use Rattle.control.specs.declared.control_key.ControlKey.{ControlKey}
use Rattle.control.specs.declared.control_row.ControlRow.{ControlRow}
use Rattle.control.specs.Keys.{same_key}
use Rattle.control.specs.Lines.{back_off_of, line_count}

-- there is no line
pub record Empty (xs : List ControlRow) : Type 0 where
  pub at : (j : ControlKey) → back_off_of xs j ≡ None
  pub size : line_count xs ≡ 0

-- every key answers as before, but for k, which answers b
pub record Set (k : ControlKey) (b : ℕ) (xs ys : List ControlRow) : Type 0 where
  pub at : (j : ControlKey) → back_off_of ys j ≡ cond (same_key k j) (Some b) (back_off_of xs j)
  pub size : line_count ys ≡ line_count xs + cond (is_some (back_off_of xs k)) 0 1
  pub rows : length ys ≡ length xs

-- k is new, and every row has a line
pub record Full (k : ControlKey) (xs ys : List ControlRow) (e : Refusal) : Type 0 where
  pub refusal : refusal_number e ≡ refusal_number ControlFull
  pub same : ys ≡ xs
  pub new : back_off_of xs k ≡ None
  pub full : line_count xs ≡ length xs

-- every key answers as before, but for k, which had a line and has none
pub record Cleared (k : ControlKey) (xs ys : List ControlRow) : Type 0 where
  pub stood : is_some (back_off_of xs k) ≡ true
  pub at : (j : ControlKey) → back_off_of ys j ≡ cond (same_key k j) None (back_off_of xs j)
  pub size : line_count ys + 1 ≡ line_count xs
  pub rows : length ys ≡ length xs

-- there is no line of key k to clear
pub record Missing (k : ControlKey) (xs ys : List ControlRow) (e : Refusal) : Type 0 where
  pub refusal : refusal_number e ≡ refusal_number ControlKind
  pub same : ys ≡ xs
  pub none : back_off_of xs k ≡ None

-- no key: the kind is not 1 to 3
abbrev pub Setting : Option ControlKey → ℕ → List ControlRow → List ControlRow → Result (Unit {0}) Refusal → Type 0
Setting None b xs ys r = (numbered r ≡ refuse ControlKind) × (ys ≡ xs)
Setting (Some k) b xs ys r = MatchResult r (λ _. Set k b xs ys) (λ e. Full k xs ys e)

abbrev pub Clearing : Option ControlKey → List ControlRow → List ControlRow → Result (Unit {0}) Refusal → Type 0
Clearing None xs ys r = (numbered r ≡ refuse ControlKind) × (ys ≡ xs)
Clearing (Some k) xs ys r = MatchResult r (λ _. Cleared k xs ys) (λ e. Missing k xs ys e)
