-- Octets that are accepted are a message that a sender can put together.
use Rattle.std.proofs.Common.{◌≡◌, ℕ, zero, suc, ◌+◌, ◌*◌, ◌/◌, ◌%◌, ◌<◌, ◌≤◌, Bool, true, false, cond, ltb, List, [], ◌∷◌, ◌++◌, length, take, drop, Some, None, Ok, Err, Option, Result, sym, refl, ap, ◌∙◌, subst, append_assoc, arith}
use Rattle.std.specs.List.{flat_map, AllByRecursion}
use Rattle.std.proofs.ByRecursion.{All-drop, All-get_or}
use Rattle.std.proofs.lemmas.List.{drop-drop, drop_more, get_or-drop, length-drop, length-take-le, take-append-drop}
use Rattle.std.proofs.lemmas.Bool.{cond-true, ltb-false}
use Rattle.std.proofs.lemmas.Bool.Decides.{nat_tests}
use Rattle.codes.specs.declared.refusal.Refusal.TheVariants.{ElementLength}
use Rattle.nas.specs.Elements.{octet, pair, session_kind, octets_of_length, contents_length, Extent, element}
use Rattle.codes.specs.Refusals.{refuse}
use Rattle.nas.specs.Uplinks.{Parts, Message, nothing, checked_if, s_nssai, dnn_name, slice_length, slice_code, slice_in, dnn_length, dnn_in, noted, walk, then, header, read}
use Rattle.nas.specs.Messages.{Ie, length_field, encoded, Formed, first_of, framed, Composed}
use Rattle.nas.proofs.Encoded.{Fine}

-- ---- what was not refused passed each test

pub then_ok : {X Y : Type 0} (r : Result X ℕ) (f : X → Result Y ℕ) (y : Y) → then r f ≡ Ok y → (x : X) × (r ≡ Ok x) × (f x ≡ Ok y)
then_ok (Ok x) f y h = (x, refl, h)
then_ok (Err n) f y h = absurd (cc)

unless_ok : {X : Type 0} (b : Bool) (n : ℕ) (r : Result X ℕ) (x : X) → cond b (Err n) r ≡ Ok x → (b ≡ false) × (r ≡ Ok x)
unless_ok true n r x h = absurd (cc)
unless_ok false n r x h = (refl, h)

pub if_ok : {X : Type 0} (b : Bool) (n : ℕ) (r : Result X ℕ) (x : X) → cond b r (Err n) ≡ Ok x → (b ≡ true) × (r ≡ Ok x)
if_ok true n r x h = (refl, h)
if_ok false n r x h = absurd (cc)

-- ---- one element

-- the octets in front of the contents are those that a sender writes for their length
field_read : (s t u : Bool) (xs : List ℕ) → AllByRecursion (λ x. x < 256) xs → (λ (k n : ℕ). k + n ≤ length xs → cond s [] (cond t (n ∷ []) (cond u (n / 256 ∷ n % 256 ∷ []) [])) ≡ take k xs) (cond s 0 (cond t 1 (cond u 2 0))) (cond s 1 (cond t (octet xs 0) (cond u (pair xs) 0)))
field_read true t u xs small fits = refl
field_read false true u [] small fits = absurd (omega arith)
field_read false true u (x ∷ xs) small fits = refl
field_read false false true [] small fits = absurd (omega arith)
field_read false false true (x ∷ []) small fits = absurd (omega arith)
field_read false false true (x ∷ y ∷ xs) small fits =
    let high : (256 * x + y) / 256 ≡ x = omega (arith, small.1.0) in
    let low : (256 * x + y) % 256 ≡ y = omega (arith, small.1.0) in
    (λ i. high i ∷ low i ∷ [])
field_read false false false xs small fits = refl

-- the element of first octet x at the front of x ∷ xs
abbrev held : ℕ → List ℕ → Ie
held x xs = record { identifier = x; contents = take (contents_length x xs) (drop (octets_of_length x) xs) }

module _ (x : ℕ) (xs : List ℕ) (fits : octets_of_length x + contents_length x xs ≤ length xs) where
  held_length : length (held x xs).contents ≡ contents_length x xs
  held_length = length-take-le (contents_length x xs) (drop (octets_of_length x) xs) (omega (arith, length-drop (octets_of_length x) xs))

  held_formed : 16 ≤ x → Formed (held x xs)
  held_formed known = record {
    known = known;
    session = λ k. held_length ∙ cond-true _ _ _ k;
    alone = λ big. held_length ∙ grind (arith, nat_tests);
  }

  held_encoded : AllByRecursion (λ y. y < 256) xs → encoded (held x xs) ++ drop (octets_of_length x + contents_length x xs) xs ≡ x ∷ xs
  held_encoded small =
      let k = octets_of_length x in
      let n = contents_length x xs in
      ap (λ l. x ∷ (l ++ take n (drop k xs) ++ drop (k + n) xs)) (ap (length_field x) held_length ∙ field_read (session_kind x) (ltb x 0x70) (ltb x 0x80) xs small fits)
      ∙ ap (λ l. x ∷ l) (append_assoc (take k xs) (take n (drop k xs)) (drop (k + n) xs))
      ∙ ap (λ l. x ∷ (take k xs ++ (take n (drop k xs) ++ l))) (sym (drop-drop n k xs))
      ∙ ap (λ l. x ∷ (take k xs ++ l)) (take-append-drop n (drop k xs))
      ∙ ap (λ l. x ∷ l) (take-append-drop k xs)

-- an element that is handed on to f has a known kind, and fits
element_ok : {Y : Type 0} (x : ℕ) (xs : List ℕ) (f : Extent → Result Y ℕ) (y : Y) → then (element x xs) f ≡ Ok y → (16 ≤ x) × (octets_of_length x + contents_length x xs ≤ length xs) × (f (record { size = octets_of_length x + contents_length x xs; contents = (held x xs).contents }) ≡ Ok y)
element_ok x xs f y h =
    let e = then_ok (element x xs) f y h in
    let a = unless_ok _ _ _ _ e.1 in
    let b = unless_ok _ _ _ _ a.1 in
    (ltb-false _ _ a.0, ltb-false _ _ b.0, ap (λ r. then r f) b.1 ∙ e.2)

-- ---- what one element adds to what is known

noted_ok : (p q : Parts) (x : ℕ) (c : List ℕ) → noted p x c ≡ Ok q → (checked_if (s_nssai x) p.slice (slice_in c) ≡ Ok q.slice) × (checked_if (dnn_name x) p.dnn (dnn_in c) ≡ Ok q.dnn)
noted_ok p q x c h =
    let s = then_ok (checked_if (s_nssai x) p.slice (slice_in c)) _ q h in
    let d = then_ok (checked_if (dnn_name x) p.dnn (dnn_in c)) _ q s.2 in
    (s.1 ∙ ap (λ r. then r (λ (z : Parts). Ok z.slice)) d.2, d.1 ∙ ap (λ r. then r (λ (z : Parts). Ok z.dnn)) d.2)

-- where a part o is not known yet, the first element that tells it was checked
checked_fine : {X : Type 0} (kind good : ℕ → Bool) (f : List ℕ → X) (o s : Option X) (e : Ie) (es : List Ie) → checked_if (kind e.identifier) o (cond (good (length e.contents)) (Ok (f e.contents)) (refuse ElementLength)) ≡ Ok s → Fine kind good s es → Fine kind good o (e ∷ es)
checked_fine {X} kind good f o s e es h fine none first is = either (kind e.identifier) (subst (λ o. checked_if (kind e.identifier) o new ≡ Ok s) none h) is
  where
    new : Result X ℕ
    new = cond (good (length e.contents)) (Ok (f e.contents)) (refuse ElementLength)

    either : (b : Bool) → checked_if b None new ≡ Ok s → cond b (Some e) (first_of kind es) ≡ Some first → good (length first.contents) ≡ true
    either true k j =
        let same : e ≡ first = cc in
        ap (λ y. good (length y.contents)) (sym same) ∙ (if_ok _ _ _ _ (then_ok new _ s k).1).0
    either false k j = let unknown : s ≡ None = cc in fine unknown first j

-- ---- all elements

none_fine : {X : Type 0} (kind good : ℕ → Bool) (o : Option X) → Fine kind good o []
none_fine kind good o none first is = absurd (cc)

-- the elements that xs is put together from, read where p is known
record Walked (p : Parts) (xs : List ℕ) : Type 0 where
  es : List Ie
  each : AllByRecursion Formed es
  is : xs ≡ flat_map encoded es
  slice : Fine s_nssai slice_length p.slice es
  dnn : Fine dnn_name dnn_length p.dnn es

-- what the walk accepts, behind the k octets that it passes over
walked : (k : ℕ) (p q : Parts) (xs : List ℕ) → k ≤ length xs → AllByRecursion (λ x. x < 256) xs → walk k p xs ≡ Ok q → Walked p (drop k xs)
unfolding walk
walked zero p q [] fits small h = record {
  es = [];
  each = tt;
  is = refl;
  slice = none_fine s_nssai slice_length p.slice;
  dnn = none_fine dnn_name dnn_length p.dnn;
}
walked (suc k) p q [] fits small h = absurd (omega arith)
walked (suc k) p q (x ∷ xs) fits small h = walked k p q xs (omega arith) small.1 h
walked zero p q (x ∷ xs) fits small h =
    let e = element_ok x xs _ q h in
    let m = then_ok (noted p x (held x xs).contents) _ q e.2 in
    let parts = noted_ok p m.0 x (held x xs).contents m.1 in
    let rest = walked (octets_of_length x + contents_length x xs) m.0 q xs e.1 small.1 m.2 in
    record {
      es = held x xs ∷ rest.es;
      each = (held_formed x xs e.1 e.0, rest.each);
      is = sym (held_encoded x xs e.1 small.1) ∙ ap (λ l. encoded (held x xs) ++ l) rest.is;
      slice = checked_fine s_nssai slice_length slice_code p.slice m.0.slice (held x xs) rest.es parts.0 rest.slice;
      dnn = checked_fine dnn_name dnn_length (λ c. c) p.dnn m.0.dnn (held x xs) rest.es parts.1 rest.dnn;
    }

-- ---- the whole message

-- xs is a frame around a payload of n octets
record Headed (xs : List ℕ) (n : ℕ) : Type 0 where
  some : 0 < length (take n (drop 6 xs))
  few : length (take n (drop 6 xs)) ≤ 2048
  is : xs ≡ framed (octet xs 1 / 16) (octet xs 3 / 16) (take n (drop 6 xs)) (drop (6 + n) xs)

header_ok : (xs : List ℕ) (n : ℕ) → AllByRecursion (λ x. x < 256) xs → header xs ≡ Ok n → Headed xs n
header_ok xs n small h =
    let fits : 6 + n ≤ length xs = grind (arith, nat_tests) in
    let some : 0 < n = grind (arith, nat_tests) in
    let few : n ≤ 2048 = grind (arith, nat_tests) in
    let says : n ≡ pair (drop 4 xs) = grind (arith, nat_tests) in
    let low : octet xs 5 < 256 = All-get_or (λ x. x < 256) xs 5 0 (omega arith) small in
    let at-4 : octet (drop 4 xs) 0 ≡ octet xs 4 = get_or-drop 4 xs 0 0 in
    let at_5 : octet (drop 4 xs) 1 ≡ octet xs 5 = get_or-drop 4 xs 1 0 in
    let x0 : octet xs 0 ≡ 0x7E = grind (arith, nat_tests) in
    let x1 : octet xs 1 ≡ 16 * (octet xs 1 / 16) = grind (arith, nat_tests) in
    let x2 : octet xs 2 ≡ 0x67 = grind (arith, nat_tests) in
    let x3 : octet xs 3 ≡ 16 * (octet xs 3 / 16) + 1 = grind (arith, nat_tests) in
    let x4 : octet xs 4 ≡ n / 256 = omega arith in
    let x5 : octet xs 5 ≡ n % 256 = omega arith in
    let long : length (take n (drop 6 xs)) ≡ n = length-take-le n (drop 6 xs) (omega (arith, length-drop 6 xs)) in
    let parts : take n (drop 6 xs) ++ drop (6 + n) xs ≡ drop 6 xs = ap (λ l. take n (drop 6 xs) ++ l) (sym (drop-drop n 6 xs)) ∙ take-append-drop n (drop 6 xs) in
    record {
      some = omega arith;
      few = omega arith;
      is = cc (drop_more xs 0 0 (omega arith), drop_more xs 1 0 (omega arith), drop_more xs 2 0 (omega arith), drop_more xs 3 0 (omega arith), drop_more xs 4 0 (omega arith), drop_more xs 5 0 (omega arith));
    }

pub only_messages : (xs : List ℕ) → AllByRecursion (λ x. x < 256) xs → (m : Message) → read xs ≡ Ok m → Composed xs
only_messages xs small m h =
    let n = then_ok (header xs) _ m h in
    let head = header_ok xs n.0 small n.1 in
    let behind = drop (6 + n.0) xs in
    let parts = then_ok (walk 0 nothing behind) _ m n.2 in
    let rest = walked 0 nothing parts.0 behind (omega arith) (All-drop (λ x. x < 256) (6 + n.0) xs small) parts.1 in
    record {
      second = octet xs 1 / 16;
      fourth = octet xs 3 / 16;
      payload = take n.0 (drop 6 xs);
      es = rest.es;
      formed = record { some = head.some; few = head.few; each = rest.each; slice = rest.slice refl; dnn = rest.dnn refl };
      is = head.is ∙ ap (framed (octet xs 1 / 16) (octet xs 3 / 16) (take n.0 (drop 6 xs))) rest.is;
    }
