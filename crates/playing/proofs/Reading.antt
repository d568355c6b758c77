-- The line that asks to read octets: `read`, and the octets as they are written.
use Rattle.std.proofs.Common.{◌≡◌, ℕ, ◌/◌, ◌%◌, ◌<◌, false, eqb, List, [], ◌∷◌, ◌++◌, length, codes, refl, ap, arith}
use Rattle.std.specs.List.{flat_map, AllByRecursion}
use Rattle.std.proofs.lemmas.Bool.{and_right, or_from}
use Rattle.std.proofs.lemmas.Bool.Decides.{nat_tests}
use Rattle.printing.specs.Octets.{digit_text, octet_text, octets_text}
use Rattle.scenario.specs.Words.{words, Word}
use Rattle.scenario.proofs.Cuts.{words_back}
use Rattle.playing.specs.Lines.{silent}

digit_solid : (d : ℕ) → d < 16 → digit_text d ≡ 0x20 → ⊥
digit_solid d h e = grind (arith, nat_tests)

digits_solid : (xs : List ℕ) → AllByRecursion (λ x. x < 256) xs → AllByRecursion (λ x. x ≡ 0x20 → ⊥) (flat_map octet_text xs)
digits_solid [] h = tt
digits_solid (x ∷ xs) h =
    (digit_solid (x / 16) (omega (arith, h.0)), (digit_solid (x % 16) (omega arith), digits_solid xs h.1))

-- octets are written as one word
octets_word : (xs : List ℕ) → AllByRecursion (λ x. x < 256) xs → Word (octets_text xs)
octets_word [] h = (omega arith, (λ e. absurd (omega arith), tt))
octets_word (x ∷ xs) h = (omega arith, digits_solid (x ∷ xs) h)

verb_word : Word (codes "read")
verb_word = (omega arith, (λ e. absurd (omega arith), (λ e. absurd (omega arith), (λ e. absurd (omega arith), (λ e. absurd (omega arith), tt)))))

pub words_read : (xs : List ℕ) → AllByRecursion (λ x. x < 256) xs → words (codes "read " ++ octets_text xs) ≡ codes "read" ∷ octets_text xs ∷ []
words_read xs h = words_back (codes "read" ∷ octets_text xs ∷ []) (verb_word, (octets_word xs h, tt))

-- it asks for something
pub read_loud : (xs : List ℕ) → AllByRecursion (λ x. x < 256) xs → silent (codes "read " ++ octets_text xs) ≡ false
read_loud xs h = or_from _ _ (and_right _ _ refl) (ap (λ l. eqb (length l) 0) (words_read xs h))
