-- What the calls of a table do to its rows.
use Rattle.std.specs.Prelude.{◌≡◌, ℕ, Bool, true, List, MatchBool, Option, MatchOption, Result, MatchResult, slice_index_or, slice_set}
use Rattle.std.specs.Borrow.{Bor}
use Rattle.tables.specs.declared.table.TableFull.{TableFull}
use Rattle.tables.specs.Rows.{Absent, First, NoneFree, Target}

module _ {R K : Type 0} (free : R → Bool) (named : R → K) where
  -- what looking up k answers: the first row in use under it
  abbrev pub Gets : K → List R → Option (Bor R) → Type 0
  Gets k xs r = MatchOption r (Absent free named k xs) (λ x. (i : ℕ) × First free named k xs i × ((d : R) → x.now ≡ slice_index_or xs i d))

  -- x is written to the first row in use under its key, or to the first free one where there is none
  pub record Takes (x : R) (xs ys : List R) (i : ℕ) : Type 0 where
    pub after : ys ≡ slice_set xs i x
    pub place : Target free named (named x) xs i

  -- there is no row in use under k, and none is free
  pub record Full (k : K) (xs ys : List R) : Type 0 where
    pub same : ys ≡ xs
    pub absent : Absent free named k xs
    pub full : NoneFree free xs

  abbrev pub Sets : R → List R → List R → Result (Unit {0}) TableFull → Type 0
  Sets x xs ys r = MatchResult r (λ _. (i : ℕ) × Takes x xs ys i) (λ _. Full (named x) xs ys)

  -- the first row in use under k is freed
  pub record Frees (k : K) (xs ys : List R) (i : ℕ) (x : R) : Type 0 where
    pub first : First free named k xs i
    pub freed : free x ≡ true
    pub after : ys ≡ slice_set xs i x

  abbrev pub Removes : K → List R → List R → Bool → Type 0
  Removes k xs ys r = MatchBool r ((i : ℕ) × ((x : R) × Frees k xs ys i x)) ((ys ≡ xs) × Absent free named k xs)
