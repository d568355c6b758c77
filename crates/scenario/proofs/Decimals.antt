-- A number is read from its digits, and from what `{n}` writes.
use Rattle.std.proofs.Common.{◌≡◌, ℕ, ◌^◌, ◌<◌, true, false, List, [], ◌∷◌, length, get_or, Some, None, Ok, Err, IsUtf8, decimal, Result, sym, refl, ap, ◌∙◌, ⊎_elim, arith, rules}
use Rattle.std.specs.Result.{OkIff, result_ok}
use Rattle.std.specs.Str.Parse.{ParsesUnsigned}
use Rattle.std.specs.Str.{all_ascii_digits}
use Rattle.std.proofs.lemmas.Fmt.{IsAscii-from_digits, decimal_nonempty, digits_decimal, digits_value-decimal}
use Rattle.std.proofs.lemmas.Str.Parse.{IsNumeralModel, numerals_by_fold, parse_plain}
use Rattle.std.proofs.lemmas.Bool.{and_from, cases_Bool, cond-true, lt-ltb}
use Rattle.std.proofs.lemmas.Str.{IsUtf8-from_ascii}
use Rattle.std.proofs.lemmas.Bool.Decides.{nat_tests}
use Rattle.scenario.specs.Number.{number_after, number_in}
use Rattle.scenario.specs.Words.{begins_with}

own : IsNumeralModel (λ ds. all_ascii_digits ds ≡ true) (number_after 0)
own = numerals_by_fold _ (search rules) number_after (search rules)

there : (xs : List ℕ) → all_ascii_digits xs ≡ true → 0 < length xs → number_after 0 xs < 2 ^ 64 → number_in xs ≡ Some (number_after 0 xs)
there xs d l v = cond-true _ _ _ (and_from _ _ d (and_from _ _ (lt-ltb _ _ l) (lt-ltb _ _ v)))

-- what is written of a number reads as that number; the first part gives `grind` the term `decimal n`
pub number_back : (n : ℕ) → n < 2 ^ 64 → (decimal n ≡ decimal n) × (number_in (decimal n) ≡ Some n)
number_back n h =
    (refl, there (decimal n) (digits_decimal own n h) (decimal_nonempty n h) (rw (digits_value-decimal own n h) h) ∙ ap Some (digits_value-decimal own n h))

-- a sign is below the digits
pub no_sign : (xs : List ℕ) → get_or xs 0 0 < 0x30 → number_in xs ≡ None
no_sign [] h = refl
no_sign (c ∷ cs) h = grind (arith, nat_tests)

plain : (xs : List ℕ) → begins_with 0x2B xs ≡ false → get_or xs 0 0 ≡ 0x2B → ⊥
plain [] e f = absurd (omega arith)
plain (c ∷ cs) e f = absurd (grind (arith, nat_tests))

-- digits are text
pub no_text : (xs : List ℕ) → (IsUtf8 xs → ⊥) → number_in xs ≡ None
no_text xs h =
    ⊎_elim (λ d. absurd (h (IsUtf8-from_ascii xs (IsAscii-from_digits xs (own.to xs d))))) (λ d. rw d) (cases_Bool (all_ascii_digits xs))

pub parsed : {E : Type 0} (xs : List ℕ) (r : Result ℕ E) → ParsesUnsigned 64 10 xs r → begins_with 0x2B xs ≡ false → result_ok r ≡ number_in xs
parsed {E} xs r reads unsigned = by r (parse_plain own 64 xs r reads (plain xs unsigned))
  where
    by : (s : Result ℕ E) → OkIff s ((all_ascii_digits xs ≡ true) × (0 < length xs) × (number_after 0 xs < 2 ^ 64)) (number_after 0 xs) → result_ok s ≡ number_in xs
    by (Ok n) h = ap Some h.1 ∙ sym (there xs h.0.0 h.0.1 h.0.2)
    by (Err e) h = grind (arith, nat_tests)

pub ruleset numbers = (number_back, no_sign, parsed)
