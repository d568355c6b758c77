-- What is so of every list of service lines, as a directory.
use Rattle.std.specs.Prelude.{◌≡◌, ℕ, zero, suc, ◌<◌, ◌≤◌, get_or, true, false, List, [], ◌∷◌, Decides, HoldsAt}
use Rattle.std.specs.List.{AllPass}
use Rattle.std.proofs.Common.{arith, ⊎_elim}
use Rattle.std.proofs.lemmas.Bool.{cases_Bool}
use Rattle.std.proofs.lemmas.Bool.Decides.{nat_tests}
use Rattle.std.proofs.lemmas.List.Folds.{list_any_none}
use Rattle.directories.specs.declared.service_line.ServiceLine.{ServiceLine}
use Rattle.directories.specs.Lines.{good_line, line_for, line_serves, lines_serve, takes_first, First, FirstSmf}
use Rattle.directories.specs.Meanings.{Lawful, Sole}

no_number : (l : ServiceLine) (s m : ℕ) → good_line l ≡ true → line_serves l s 0 m ≡ false
no_number l s m g = grind (arith, nat_tests)

no_smf : (l : ServiceLine) (s n : ℕ) → good_line l ≡ true → line_serves l s n 0 ≡ false
no_smf l s n g = grind (arith, nat_tests)

pub first_among : (lines : List ServiceLine) (s n m : ℕ) → takes_first lines s n m ≡ true → lines_serve lines s n m ≡ true
unfolding takes_first
first_among [] s n m e = e
first_among (l ∷ lines) s n m e = grind (arith, nat_tests, first_among lines s n m)

-- good lines make a lawful directory
pub lines_lawful : (lines : List ServiceLine) → AllPass good_line lines → Lawful (lines_serve lines) (takes_first lines)
lines_lawful lines good =
    record {
      numbered = λ s m. list_any_none (λ l. line_serves l s 0 m) lines (λ i d h. no_number _ s m (good i d h));
      identified = λ s n. list_any_none (λ l. line_serves l s n 0) lines (λ i d h. no_smf _ s n (good i d h));
      among = first_among lines;
    }

pub first_sole : (lines : List ServiceLine) → Sole (takes_first lines)
unfolding takes_first
first_sole [] s n m k a b = grind (arith, nat_tests)
first_sole (l ∷ lines) s n m k a b = grind (arith, nat_tests, first_sole lines s n m k)

after : (l : ServiceLine) (lines : List ServiceLine) (s n i : ℕ) → line_for l s n ≡ false → First lines s n i → First (l ∷ lines) s n (suc i)
after l lines s n i t f = record { within = omega (arith, f.within); here = f.here; before = before l lines s n i t f }
  where
    before : (l : ServiceLine) (lines : List ServiceLine) (s n i : ℕ) → line_for l s n ≡ false → First lines s n i → (j : ℕ) (d : ServiceLine) → 0 ≤ j → j < suc i → line_for (get_or (l ∷ lines) j d) s n ≡ false
    before l lines s n i t f zero d a h = t
    before l lines s n i t f (suc j) d a h = f.before j d (omega arith) (omega arith)

taken_first : (lines : List ServiceLine) (s n m : ℕ) → takes_first lines s n m ≡ true → FirstSmf lines s n m
unfolding takes_first
taken_first [] s n m e = grind arith
taken_first (l ∷ lines) s n m e =
    ⊎_elim
    (λ (t : line_for l s n ≡ true). (0, record { within = omega arith; here = λ d. t; before = λ j d a h. absurd (omega arith) }, λ d. grind (arith, nat_tests)))
    (λ (t : line_for l s n ≡ false). let f = taken_first lines s n m (grind (arith, t, e)) in (suc f.0, after l lines s n f.0 t f.1, f.2))
    (cases_Bool (line_for l s n))

pub first_taken : (lines : List ServiceLine) (s n m i : ℕ) → First lines s n i → HoldsAt (λ l. l.smf ≡ m) lines i → takes_first lines s n m ≡ true
unfolding takes_first
first_taken [] s n m i f v = absurd (omega (arith, f.within))
first_taken (l ∷ lines) s n m zero f v = grind (arith, nat_tests, f.here l, v l)
first_taken (l ∷ lines) s n m (suc i) f v =
    let rest : First lines s n i = record { within = omega (arith, f.within); here = f.here; before = λ j d a h. f.before (suc j) d (omega arith) (omega arith) } in
    grind (arith, f.before 0 l (omega arith) (omega arith), first_taken lines s n m i rest v)

-- what is taken is the first line's SMF
pub takes_decides : (lines : List ServiceLine) (s n m : ℕ) → Decides (takes_first lines s n m) (FirstSmf lines s n m)
takes_decides lines s n m = (taken_first lines s n m, λ f. first_taken lines s n m f.0 f.1 f.2)
