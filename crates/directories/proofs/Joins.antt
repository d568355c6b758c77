-- A line that is added to the sets of a turning directory.
use Rattle.std.proofs.Common.{◌≡◌, ℕ, zero, suc, ◌-◌, ◌<◌, Bool, true, false, ◌&&◌, ◌||◌, eqb, ltb, List, [], ◌∷◌, ◌++◌, length, get_or, set, replicate, Ok, Err, Result, refl, ap, ◌∙◌, arith, MatchResult}
use Rattle.std.specs.List.{AllPass, list_any}
use Rattle.std.proofs.lemmas.List.{length-set, length_push, get_or-set_same, get_or-set_other}
use Rattle.std.proofs.lemmas.Bool.{eqb-true, and_parts}
use Rattle.std.proofs.lemmas.Bool.Decides.{nat_tests}
use Rattle.std.proofs.lemmas.List.Folds.{list_any_at, list_any_none, list_any-append}
use Rattle.codes.specs.declared.setup_error.SetupError.{SetupError}
use Rattle.codes.specs.declared.setup_error.SetupError.TheVariants.{Refused, OutOfMemory}
use Rattle.directories.specs.declared.served_set.ServedSet.{ServedSet}
use Rattle.directories.specs.declared.service_line.ServiceLine.{ServiceLine}
use Rattle.directories.specs.Additions.{Pushed, Unpushed, Joined, Unjoined}
use Rattle.directories.specs.Lines.{numbered, good_line, line_serves}
use Rattle.directories.specs.Sets.{set_serves, is_pair, line_pair, holds_pair, with_dnn, empty_of, set_of, NoPair, PairAt, good_set}

-- an element is changed, which passes where it did or where more does
some_set : {X : Type 0} (test : X → Bool) (xs : List X) (i : ℕ) (d y : X) (more : Bool) → i < length xs → test y ≡ (test (get_or xs i d) || more) → list_any test (set xs i y) ≡ (list_any test xs || more)
some_set test [] i d y more l e = absurd (omega arith)
some_set test (x ∷ xs) zero d y more l e = grind (arith, e)
some_set test (x ∷ xs) (suc i) d y more l e = grind (arith, some_set test xs i d y more (omega arith) e)

-- what one more number changes in the numbers of a set
more_numbers : (xs : List Bool) (d n : ℕ) → numbered d ≡ true → length xs ≡ 64 → (numbered n && get_or (set xs (d - 1) true) (n - 1) false) ≡ ((numbered n && get_or xs (n - 1) false) || eqb d n)
more_numbers xs d n g l = grind (arith, nat_tests, get_or-set_same xs (d - 1) true false, get_or-set_other xs (d - 1) (n - 1) true false)

-- a set of the line's slice and SMF gets the line's DNN
module _ (x : ServedSet) (l : ServiceLine) (pair : is_pair x l.slice l.smf ≡ true) where
  with_serves : good_line l ≡ true → length x.numbers ≡ 64 → (s n m : ℕ) → set_serves (with_dnn x l.dnn) s n m ≡ (set_serves x s n m || line_serves l s n m)
  with_serves good sized s n m = grind (arith, nat_tests, more_numbers x.numbers l.dnn n)

  with_pair : (s m : ℕ) → is_pair x s m ≡ (is_pair x s m || line_pair l s m)
  with_pair s m = grind (arith, nat_tests)

-- the pair is held, by the set at i
pub joined_held : (sets : List ServedSet) (l : ServiceLine) (i : ℕ) (y : ServedSet) → AllPass good_set sets → PairAt sets l.slice l.smf i → good_line l ≡ true → y ≡ with_dnn (get_or sets i y) l.dnn → Joined sets l (set sets i y)
joined_held sets l i y fine at good e =
    let x = get_or sets i y in
    let sized = eqb-true (length x.numbers) 64 (and_parts (ltb 0 x.smf) _ (fine i y at.0)).1 in
    let held : holds_pair sets l.slice l.smf ≡ true = list_any_at (λ z. is_pair z l.slice l.smf) sets i y at.0 (at.1 y) in
    record {
      good = grind (arith, nat_tests, good, held);
      serving = λ s n m. some_set (λ z. set_serves z s n m) sets i y y (line_serves l s n m) at.0 (ap (λ (z : ServedSet). set_serves z s n m) e ∙ with_serves x l (at.1 y) good sized s n m);
      pairs = λ s m. some_set (λ z. is_pair z s m) sets i y y (line_pair l s m) at.0 (ap (λ (z : ServedSet). is_pair z s m) e ∙ with_pair x l (at.1 y) s m);
      count = grind (arith, held, length-set sets i y);
    }

-- the pair is new
module _ (sets : List ServedSet) (l : ServiceLine) (none : NoPair sets l.slice l.smf) (good : good_line l ≡ true) where
  unheld : holds_pair sets l.slice l.smf ≡ false
  unheld = list_any_none (λ z. is_pair z l.slice l.smf) sets none

  blank : (k j : ℕ) → get_or (replicate k false) j false ≡ false
  blank zero j = refl
  blank (suc k) zero = refl
  blank (suc k) (suc j) = blank k j

  joined_new : length sets < 64 → Joined sets l (sets ++ set_of l ∷ [])
  joined_new room =
      record {
        good = grind (arith, nat_tests, good);
        serving = λ s n m. list_any-append (λ z. set_serves z s n m) sets (set_of l ∷ []) ∙ grind (arith, with_serves (empty_of l) l (grind (arith, nat_tests)) good refl s n m, blank 64 (n - 1));
        pairs = λ s m. list_any-append (λ z. is_pair z s m) sets (set_of l ∷ []) ∙ grind arith;
        count = grind (arith, unheld, length_push sets (set_of l));
      }

  pub joined_by : (r : Result Unit SetupError) (after : List ServedSet) → MatchResult r (λ _. Pushed sets (set_of l) after) (λ e. Unpushed sets after e) → MatchResult r (λ _. Joined sets l after) (λ e. Unjoined sets l after e)
  joined_by (Ok u) after h = rw h.last (joined_new h.room)
  joined_by (Err (Refused _)) after h = (h.0, grind (arith, nat_tests, good, unheld), h.2)
  joined_by (Err OutOfMemory) after h = (grind (arith, nat_tests, good, unheld), unheld, h.1)
