-- Rows in use under a key, and what looking for them answers.
use Rattle.std.specs.Prelude.{◌≡◌, ℕ, ◌<◌, Bool, true, false, ◌⊎◌, List, length, Option, MatchOption, slice_index_or}

module _ {R K : Type 0} (free : R → Bool) (named : R → K) where
  -- the row is in use, under the key k
  abbrev pub Held : K → R → Type 0
  Held k x = (free x ≡ false) × (named x ≡ k)

  -- no row is in use under k
  abbrev pub Absent : K → List R → Type 0
  Absent k xs = (j : ℕ) (d : R) → j < length xs → Held k (slice_index_or xs j d) → ⊥

  -- the first row in use under k is at i
  pub record First (k : K) (xs : List R) (i : ℕ) : Type 0 where
    pub within : i < length xs
    pub used : (d : R) → free (slice_index_or xs i d) ≡ false
    pub key : (d : R) → named (slice_index_or xs i d) ≡ k
    pub before : (j : ℕ) (d : R) → j < i → Held k (slice_index_or xs j d) → ⊥

  -- what looking for k answers
  abbrev pub Finds : K → List R → Option ℕ → Type 0
  Finds k xs r = MatchOption r (Absent k xs) (λ i. First k xs i)

  -- no two rows in use have the same key
  abbrev pub Apart : List R → Type 0
  Apart xs =
      (i j : ℕ) (d : R) → i < length xs → j < length xs → free (slice_index_or xs i d) ≡ false → free (slice_index_or xs j d) ≡ false → named (slice_index_or xs i d) ≡ named (slice_index_or xs j d) → i ≡ j

module _ {R : Type 0} (free : R → Bool) where
  abbrev pub AllFree : List R → Type 0
  AllFree xs = (j : ℕ) (d : R) → j < length xs → free (slice_index_or xs j d) ≡ true

  abbrev pub NoneFree : List R → Type 0
  NoneFree xs = (j : ℕ) (d : R) → j < length xs → free (slice_index_or xs j d) ≡ false

  -- the first free row is at i
  pub record FirstFree (xs : List R) (i : ℕ) : Type 0 where
    pub within : i < length xs
    pub here : (d : R) → free (slice_index_or xs i d) ≡ true
    pub before : (j : ℕ) (d : R) → j < i → free (slice_index_or xs j d) ≡ false

  -- what looking for a free row answers
  abbrev pub FindsFree : List R → Option ℕ → Type 0
  FindsFree xs r = MatchOption r (NoneFree xs) (λ i. FirstFree xs i)

module _ {R K : Type 0} (free : R → Bool) (named : R → K) where
  -- where a row under k is to be written: to the first in use under it, or to the first free one where there is none
  abbrev pub Target : K → List R → ℕ → Type 0
  Target k xs i = First free named k xs i ⊎ (FirstFree free xs i × Absent free named k xs)

  -- what looking for such a place answers
  abbrev pub FindsTarget : K → List R → Option ℕ → Type 0
  FindsTarget k xs r = MatchOption r (Absent free named k xs × NoneFree free xs) (λ i. Target k xs i)
