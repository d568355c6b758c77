-- What a directory may answer.
use Rattle.std.specs.Prelude.{◌≡◌, ℕ, ◌<◌, Bool, true, false, Some, None, Option, Ok, Err, Result, IfOk}
use Rattle.codes.specs.declared.slice_dnn.SliceDnn.{SliceDnn}
use Rattle.directories.specs.declared.no_smf.NoSmf.{NoSmf}
use Rattle.directories.specs.declared.no_smf.NoSmf.TheVariants.{Closed, NoneServes}

-- closed if it is closed, none exactly if it is open and none serves, and otherwise one that serves and that it takes
abbrev pub Chosen : Bool → (ℕ → Bool) → (ℕ → Bool) → Result ℕ NoSmf → Type 0
Chosen is_open serves takes (Err Closed) = is_open ≡ false
Chosen is_open serves takes (Err NoneServes) = (is_open ≡ true) × ((m : ℕ) → serves m ≡ false)
Chosen is_open serves takes (Ok m) = (is_open ≡ true) × (serves m ≡ true) × (takes m ≡ true)

-- the same, by who serves and whom it takes for any slice and DNN number, of those that are wanted
abbrev pub ChosenFor : Bool → (ℕ → ℕ → ℕ → Bool) → (ℕ → ℕ → ℕ → Bool) → SliceDnn → Result ℕ NoSmf → Type 0
ChosenFor is_open serves takes w r = Chosen is_open (serves w.slice w.dnn) (takes w.slice w.dnn) r

-- an SMF is named only for a DNN that has a number, and by an ID above 0
abbrev pub Named : SliceDnn → Result ℕ NoSmf → Type 0
Named w r = IfOk r (λ m. (0 < w.dnn) × (0 < m))

-- for each slice and DNN number the same SMFs serve
abbrev pub SameServing : (ℕ → ℕ → ℕ → Bool) → (ℕ → ℕ → ℕ → Bool) → Type 0
SameServing before after = (s n m : ℕ) → after s n m ≡ before s n m

-- an SMF of a directory: where it is open, none exactly if none serves, and otherwise one that serves
abbrev pub Serving : Bool → (ℕ → Bool) → Option ℕ → Type 0
Serving is_open serves None = is_open ≡ true → (m : ℕ) → serves m ≡ false
Serving is_open serves (Some m) = (is_open ≡ true) × (serves m ≡ true) × (0 < m)
