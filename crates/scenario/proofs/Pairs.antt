-- Octets are read from pairs of digits, and from what is written of them.
use Rattle.std.proofs.Common.{◌≡◌, ℕ, ◌+◌, ◌*◌, ◌/◌, ◌%◌, ◌<◌, ◌⊎◌, List, [], ◌∷◌, ◌++◌, length, get_or, Some, None, Option, sym, refl, ap, ◌∙◌, ⊎_elim, append_assoc, append-nil, arith}
use Rattle.std.specs.Option.{option_map}
use Rattle.std.specs.List.{flat_map, AllByRecursion}
use Rattle.std.proofs.lemmas.List.{length-append}
use Rattle.std.proofs.lemmas.Bool.Decides.{nat_tests}
use Rattle.printing.specs.Octets.{digit_text, octet_text, octets_text}
use Rattle.scenario.specs.Octets.{digit_in, octet_of, octet_before, octet_in, pairs_in, octets_in}

digit_back : (d : ℕ) → d < 16 → digit_in (digit_text d) ≡ Some d
digit_back d h = grind (arith, nat_tests)

-- the two digits of an octet read as that octet
pub octet_back : (x : ℕ) → x < 256 → octet_of (digit_in (digit_text (x / 16))) (digit_in (digit_text (x % 16))) ≡ Some x
octet_back x h =
    let e : x / 16 * 16 + x % 16 ≡ x = omega arith in
    (λ i. octet_of (digit_back (x / 16) (omega (arith, h)) i) (digit_back (x % 16) (omega arith) i)) ∙ ap Some e

pairs_back : (xs : List ℕ) → AllByRecursion (λ x. x < 256) xs → pairs_in (flat_map octet_text xs) ≡ Some xs
pairs_back [] h = refl
pairs_back (x ∷ xs) h = (λ i. octet_before (octet_back x h.0 i) (pairs_back xs h.1 i))

-- what is written of octets reads as those octets
pub octets_back : (xs : List ℕ) → AllByRecursion (λ x. x < 256) xs → octets_in (octets_text xs) ≡ Some xs
octets_back [] h = refl
octets_back (x ∷ xs) h = pairs_back (x ∷ xs) h

-- the same, where the first part gives `grind` the term `octets_text xs`
pub octets_read : (xs : List ℕ) → AllByRecursion (λ x. x < 256) xs → (octets_text xs ≡ octets_text xs) × (octets_in (octets_text xs) ≡ Some xs)
octets_read xs h = (refl, octets_back xs h)

no_rest : (o : Option ℕ) → octet_before o None ≡ None
no_rest None = refl
no_rest (Some x) = refl

pub odd_none : (xs : List ℕ) → length xs % 2 ≡ 1 → pairs_in xs ≡ None
odd_none [] h = absurd (omega arith)
odd_none (a ∷ []) h = refl
odd_none (a ∷ b ∷ xs) h =
    ap (octet_before (octet_of (digit_in a) (digit_in b))) (odd_none xs (omega arith)) ∙ no_rest (octet_of (digit_in a) (digit_in b))

-- the octets ys, and then those of what is left
abbrev pub after : List ℕ → Option (List ℕ) → Option (List ℕ)
after ys o = option_map (λ xs. ys ++ xs) o

pub after_none : (o : Option (List ℕ)) → after [] o ≡ o
after_none None = refl
after_none (Some xs) = refl

pub after_one : (ys : List ℕ) (x : ℕ) (o : Option (List ℕ)) → after (ys ++ x ∷ []) o ≡ after ys (octet_before (Some x) o)
after_one ys x None = refl
after_one ys x (Some xs) = ap Some (append_assoc ys (x ∷ []) xs)

-- a pair p, and the rest
pub at_pair : (p rest : List ℕ) → length p ≡ 2 → pairs_in (p ++ rest) ≡ octet_before (octet_in p) (pairs_in rest)
at_pair [] rest two = absurd (omega arith)
at_pair (a ∷ []) rest two = absurd (omega arith)
at_pair (a ∷ b ∷ []) rest two = refl
at_pair (a ∷ b ∷ c ∷ p) rest two = absurd (omega arith)

-- no pair is left
pub all_read : (ys rest : List ℕ) → length rest < 2 → length rest % 2 ≡ 0 → after ys (pairs_in rest) ≡ Some ys
all_read ys [] l e = ap Some (append-nil ys)
all_read ys (a ∷ rest) l e = absurd (omega arith)

pub ruleset pairs = (odd_none, after_none, at_pair, after_one, all_read, length-append)
