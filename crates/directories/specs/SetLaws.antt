-- What is so of every list of sets, as a directory.
use Rattle.std.specs.Prelude.{◌≡◌, ℕ, ◌<◌, ◌≤◌, get_or, Bool, true, false, ◌&&◌, List, [], ◌∷◌, Decides, refl}
use Rattle.std.specs.List.{AllPass, list_any}
use Rattle.std.proofs.Common.{arith, ⊎_elim}
use Rattle.std.proofs.lemmas.Bool.{and_from, and_parts, eq-eqb, false_from_ne_true, or_cases, or_left, or_right}
use Rattle.std.proofs.lemmas.Bool.Decides.{nat_tests}
use Rattle.std.proofs.lemmas.List.Folds.{list_any_none}
use Rattle.directories.specs.declared.served_set.ServedSet.{ServedSet}
use Rattle.directories.specs.Meanings.{Lawful, Sole}
use Rattle.directories.specs.Sets.{set_for, set_serves, sets_serve, good_set}
use Rattle.directories.specs.Turns.{sooner, takes_next, InTurn}

no_number : (x : ServedSet) (s m : ℕ) → set_serves x s 0 m ≡ false
no_number x s m = grind (arith, nat_tests)

no_smf : (x : ServedSet) (s n : ℕ) → good_set x ≡ true → set_serves x s n 0 ≡ false
no_smf x s n g = grind (arith, nat_tests)

-- good sets make a lawful directory
pub sets_lawful : (sets : List ServedSet) (last : ℕ) → AllPass good_set sets → Lawful (sets_serve sets) (takes_next sets last)
sets_lawful sets last good =
    record {
      numbered = λ s m. list_any_none (λ x. set_serves x s 0 m) sets (λ i d h. no_number (get_or sets i d) s m);
      identified = λ s n. list_any_none (λ x. set_serves x s n 0) sets (λ i d h. no_smf _ s n (good i d h));
      among = λ s n m e. (and_parts (sets_serve sets s n m) _ e).0;
    }

-- what is not sooner than m, by the two halves of the round
abbrev Later : ℕ → ℕ → ℕ → Type 0
Later last k m = (last < m → last < k → m ≤ k) × (m ≤ last → (k ≤ last) × (m ≤ k))

later : (last k m : ℕ) → sooner last k m ≡ false → Later last k m
later last k m e = (λ a b. grind (arith, nat_tests), λ a. (grind (arith, nat_tests), grind (arith, nat_tests)))

not_sooner : (last k m : ℕ) → Later last k m → sooner last k m ≡ true → ⊥
not_sooner last k m w h = grind (arith, nat_tests, w.0, w.1)

-- the sets say whose turn it is as the IDs that serve do
module _ (last s n m : ℕ) where
  abbrev comes_sooner : List ServedSet → Bool
  comes_sooner sets = list_any (λ x. set_for x s n && sooner last x.smf m) sets

  seen : (sets : List ServedSet) (k : ℕ) → sets_serve sets s n k ≡ true → sooner last k m ≡ true → comes_sooner sets ≡ true
  seen [] k t h = t
  seen (x ∷ sets) k t h = grind (arith, nat_tests, seen sets k)

  found : (sets : List ServedSet) → comes_sooner sets ≡ true → (k : ℕ) × (sets_serve sets s n k ≡ true) × (sooner last k m ≡ true)
  found [] e = grind arith
  found (x ∷ sets) e =
      ⊎_elim
      (λ h.
      let p = and_parts (set_for x s n) _ h in
      (x.smf, or_left (set_serves x s n x.smf) _ (and_from (set_for x s n) _ p.0 (eq-eqb x.smf x.smf refl)), p.1))
      (λ h. let f = found sets h in (f.0, or_right (set_serves x s n f.0) _ f.1, f.2))
      (or_cases (set_for x s n && sooner last x.smf m) (comes_sooner sets) e)

  turn_from : (sets : List ServedSet) → takes_next sets last s n m ≡ true → InTurn (sets_serve sets s n) last m
  turn_from sets e =
      let each : (k : ℕ) → sets_serve sets s n k ≡ true → Later last k m = λ k t. later last k m (false_from_ne_true (sooner last k m) (λ h. grind (arith, e, seen sets k t h))) in
      record { serving = (and_parts (sets_serve sets s n m) _ e).0; above = λ l k t. (each k t).0 l; round = λ l k t. (each k t).1 l }

  pub turn_to : (sets : List ServedSet) → InTurn (sets_serve sets s n) last m → takes_next sets last s n m ≡ true
  turn_to sets w =
      let none : comes_sooner sets ≡ false = false_from_ne_true (comes_sooner sets) (λ e. let f = found sets e in not_sooner last f.0 m (λ a. w.above a f.0 f.1, λ a. w.round a f.0 f.1) f.2) in
      grind (arith, w.serving, none)

-- what is taken is the one whose turn it is
pub turn_decides : (sets : List ServedSet) (last s n m : ℕ) → Decides (takes_next sets last s n m) (InTurn (sets_serve sets s n) last m)
turn_decides sets last s n m = (turn_from last s n m sets, turn_to last s n m sets)

pub turn_sole : (sets : List ServedSet) (last : ℕ) → Sole (takes_next sets last)
turn_sole sets last s n m k a b =
    let t = turn_from last s n m sets a in
    let u = turn_from last s n k sets b in
    grind (arith, t.serving, u.serving, t.above, t.round, u.above, u.round)
