-- What comes of setting a control line, from what the table says of it.
use Rattle.std.proofs.Common.{◌≡◌, ℕ, ◌+◌, ◌≤◌, Bool, true, false, cond, eqb, List, [], ◌∷◌, length, is_some, Some, None, Ok, Err, Option, Result, sym, refl, ap, ◌∙◌, subst, arith, MatchResult}
use Rattle.std.proofs.lemmas.Bool.{ne_eqb}
use Rattle.codes.specs.Refusals.{refusal_number, refuse, numbered}
use Rattle.codes.specs.declared.refusal.Refusal.{Refusal}
use Rattle.codes.specs.declared.refusal.Refusal.TheVariants.{ControlFull, ControlKind}
use Rattle.control.specs.Controls.{Set, Full, Setting}
use Rattle.control.specs.Lines.{is_free, back_off_of, line_count}
use Rattle.control.specs.declared.control_key.ControlKey.{ControlKey}
use Rattle.control.specs.declared.control_row.ControlRow.{ControlRow}
use Rattle.hall.specs.Ends.{Outcome, Accepted, Refused}
use Rattle.hall.specs.Effects.{set_outcome}

at_most : (b : Bool) (n m : ℕ) → n ≤ m → cond b 0 1 + n ≤ m + 1
at_most true n m h = omega arith
at_most false n m h = omega arith

-- there are no more lines than rows
few_lines : (xs : List ControlRow) → line_count xs ≤ length xs
few_lines [] = omega arith
few_lines (x ∷ xs) = omega (arith, at_most (is_free x) (line_count xs) (length xs) (few_lines xs))

-- the outcome by whether a line of the key stood, and whether every row has one
abbrev told : Bool → Bool → Outcome
told stood full = cond stood Accepted (cond full (Refused (refusal_number ControlFull)) Accepted)

module _ (k : ControlKey) (xs : List ControlRow) where
  by_tests : (stood full : Bool) → is_some (back_off_of xs k) ≡ stood → eqb (line_count xs) (length xs) ≡ full → set_outcome (Some k) xs ≡ told stood full
  by_tests stood full e f = λ i. told (e i) (f i)

  -- a line that was set stood there, or had a free row
  set_fits : (b : ℕ) (ys : List ControlRow) (stood : Bool) → is_some (back_off_of xs k) ≡ stood → Set k b xs ys → Accepted ≡ set_outcome (Some k) xs
  set_fits b ys true e s = sym (by_tests true _ e refl)
  set_fits b ys false e s =
      let more : line_count ys ≡ line_count xs + 1 = s.size ∙ ap (λ u. line_count xs + cond u 0 1) e in
      let room : line_count xs ≡ length xs → ⊥ = λ full. omega (arith, more, full, few_lines ys, s.rows) in
      sym (by_tests false false e (ne_eqb _ _ room))

-- where the table set a line, that is the outcome
pub set_accepted : (key : Option ControlKey) (b : ℕ) (xs ys : List ControlRow) (r : Result (Unit {0}) Refusal) (u : Unit {0}) → Setting key b xs ys r → r ≡ Ok u → Accepted ≡ set_outcome key xs
set_accepted None b xs ys r u s e = let z : refuse ControlKind ≡ Ok u = sym s.0 ∙ ap numbered e in cc
set_accepted (Some k) b xs ys r u s e = set_fits k xs b ys _ refl (subst (λ q. MatchResult q (λ _. Set k b xs ys) (λ e. Full k xs ys e)) e s)
