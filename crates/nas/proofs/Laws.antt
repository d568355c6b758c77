-- The laws of the reader: what it makes of whole messages, and of messages that were cut short.
use Rattle.std.proofs.Common.{◌≡◌, ℕ, zero, suc, ◌+◌, ◌-◌, ◌*◌, ◌/◌, ◌%◌, ◌<◌, ◌≤◌, Bool, true, false, cond, List, [], ◌∷◌, ◌++◌, length, take, drop, Some, Ok, Result, sym, refl, ap, ◌∙◌, append_assoc, append-nil, arith}
use Rattle.std.specs.List.{flat_map, AllByRecursion}
use Rattle.std.proofs.Math.Seq.{take-append-add}
use Rattle.std.proofs.lemmas.Grind.{flat_map-append}
use Rattle.std.proofs.lemmas.List.{take_at, drop_at, drop-drop, length-append, take-append-le, length-take-le}
use Rattle.std.proofs.lemmas.Bool.Decides.{nat_tests}
use Rattle.codes.specs.declared.refusal.Refusal.TheVariants.{Overrun}
use Rattle.codes.specs.Refusals.{refuse}
use Rattle.nas.specs.Uplinks.{Message, nothing, s_nssai, dnn_name, walk, then, header, judged, read}
use Rattle.nas.specs.Messages.{Ie, encoded, Formed, first_of, firsts, WellFormed, framed, message, Reads}
use Rattle.nas.proofs.Passing.{read_refused}
use Rattle.nas.proofs.Encoded.{walk_all, walk_cut, with_all}
use Rattle.nas.proofs.Accepted.{only_messages}

-- ---- a frame, whatever stands behind its payload

header_framed : (a b : ℕ) (payload behind : List ℕ) → 0 < length payload → length payload ≤ 2048 → header (framed a b payload behind) ≡ Ok (length payload)
header_framed a b payload behind some few =
    let n : length (payload ++ behind) ≡ length payload + length behind = length-append payload behind in
    grind (arith, nat_tests)

read_framed : (a b : ℕ) (payload behind : List ℕ) → 0 < length payload → length payload ≤ 2048 → read (framed a b payload behind) ≡ then (walk 0 nothing behind) (judged payload)
read_framed a b payload behind some few =
    ap (λ r. then r (λ n. then (walk 0 nothing (drop (6 + n) (framed a b payload behind))) (judged (take n (drop 6 (framed a b payload behind)))))) (header_framed a b payload behind some few)
    ∙ (λ i. then (walk 0 nothing (rest i)) (judged (take_at payload behind (length payload) refl i)))
  where
    rest : drop (6 + length payload) (framed a b payload behind) ≡ behind
    rest = sym (drop-drop (length payload) 6 (framed a b payload behind)) ∙ drop_at payload behind (length payload) refl

-- the elements of a well-formed message, and octets behind them
read_elements : (a b : ℕ) (payload : List ℕ) (es : List Ie) (rest : List ℕ) → WellFormed payload es → read (framed a b payload (flat_map encoded es ++ rest)) ≡ then (walk 0 (with_all nothing es) rest) (judged payload)
read_elements a b payload es rest w =
    read_framed a b payload (flat_map encoded es ++ rest) w.some w.few
    ∙ ap (λ r. then r (judged payload)) (walk_all nothing es rest w.each (λ _. w.slice) (λ _. w.dnn))

pub first_counts : (a b : ℕ) (payload : List ℕ) (es : List Ie) → WellFormed payload es → read (message a b payload es) ≡ judged payload (firsts es)
unfolding walk
first_counts a b payload es w =
    ap (λ xs. read (framed a b payload xs)) (sym (append-nil (flat_map encoded es))) ∙ read_elements a b payload es [] w

-- ---- messages that were cut short

frame_append : (a b : ℕ) (payload xs ys : List ℕ) → framed a b payload (xs ++ ys) ≡ framed a b payload xs ++ ys
frame_append a b payload xs ys =
    ap (λ l. 0x7E ∷ (16 * a) ∷ 0x67 ∷ (16 * b + 1) ∷ (length payload / 256) ∷ (length payload % 256) ∷ l) (sym (append_assoc payload xs ys))

header_cut : (a b : ℕ) (payload behind : List ℕ) (k : ℕ) → 0 < length payload → length payload ≤ 2048 → k < 6 + length payload → header (take k (framed a b payload behind)) ≡ refuse Overrun
header_cut a b payload behind zero some few h = refl
header_cut a b payload behind (suc zero) some few h = refl
header_cut a b payload behind (suc (suc zero)) some few h = refl
header_cut a b payload behind (suc (suc (suc zero))) some few h = refl
header_cut a b payload behind (suc (suc (suc (suc zero)))) some few h = refl
header_cut a b payload behind (suc (suc (suc (suc (suc zero))))) some few h = refl
header_cut a b payload behind (suc (suc (suc (suc (suc (suc j)))))) some few h =
    let within : j ≤ length (payload ++ behind) = omega (arith, length-append payload behind) in
    let n : length (take j (payload ++ behind)) ≡ j = length-take-le j (payload ++ behind) within in
    grind (arith, nat_tests)

pub cut_in_payload : (a b : ℕ) (payload : List ℕ) (es : List Ie) (k : ℕ) → WellFormed payload es → k < 6 + length payload → read (take k (message a b payload es)) ≡ refuse Overrun
cut_in_payload a b payload es k w h = read_refused (take k (message a b payload es)) _ (header_cut a b payload (flat_map encoded es) k w.some w.few h)

all_split : (xs : List Ie) (e : Ie) (ys : List Ie) → AllByRecursion Formed (xs ++ e ∷ ys) → AllByRecursion Formed xs × Formed e
all_split [] e ys h = (tt, h.0)
all_split (x ∷ xs) e ys h = let m = all_split xs e ys h.1 in ((h.0, m.0), m.1)

-- what comes first stays first, whatever follows
first_stays : (kind : ℕ → Bool) (xs ys : List Ie) (e : Ie) → first_of kind xs ≡ Some e → first_of kind (xs ++ ys) ≡ Some e
first_stays kind [] ys e h = absurd (cc)
first_stays kind (x ∷ xs) ys e h = either (kind x.identifier) (first_stays kind xs ys e) h
  where
    either : (b : Bool) → (first_of kind xs ≡ Some e → first_of kind (xs ++ ys) ≡ Some e) → cond b (Some x) (first_of kind xs) ≡ Some e → cond b (Some x) (first_of kind (xs ++ ys)) ≡ Some e
    either true further k = k
    either false further k = further k

module _ (a b : ℕ) (payload : List ℕ) (before : List Ie) (e : Ie) (after : List Ie) where
  -- the elements before e are well-formed too
  front_formed : WellFormed payload (before ++ e ∷ after) → WellFormed payload before
  front_formed w = record {
    some = w.some;
    few = w.few;
    each = (all_split before e after w.each).0;
    slice = λ x h. w.slice x (first_stays s_nssai before (e ∷ after) x h);
    dnn = λ x h. w.dnn x (first_stays dnn_name before (e ∷ after) x h);
  }

  behind_front : (es : List Ie) → message a b payload (before ++ e ∷ es) ≡ message a b payload before ++ (encoded e ++ flat_map encoded es)
  behind_front es = ap (framed a b payload) (flat_map-append encoded before (e ∷ es)) ∙ frame_append a b payload (flat_map encoded before) (encoded e ++ flat_map encoded es)

  pub cut_in_element : (k : ℕ) → WellFormed payload (before ++ e ∷ after) → length (message a b payload before) < k → k < length (message a b payload (before ++ e ∷ [])) → read (take k (message a b payload (before ++ e ∷ after))) ≡ refuse Overrun
  cut_in_element k w behind short =
      let j = k - length (message a b payload before) in
      let sum : k ≡ length (message a b payload before) + j = omega arith in
      let inside : j < length (encoded e) = omega (arith, ap length (behind_front []) ∙ length-append (message a b payload before) (encoded e ++ []), length-append (encoded e) []) in
      let some : 0 < j = omega arith in
      let upto : j ≤ length (encoded e) = omega arith in
      ap (λ xs. read (take k xs)) (behind_front after)
      ∙ ap (λ n. read (take n (message a b payload before ++ (encoded e ++ flat_map encoded after)))) sum
      ∙ ap read (take-append-add (message a b payload before) (encoded e ++ flat_map encoded after) j)
      ∙ ap (λ l. read (message a b payload before ++ l)) (take-append-le j (encoded e) (flat_map encoded after) upto)
      ∙ ap read (sym (frame_append a b payload (flat_map encoded before) (take j (encoded e))))
      ∙ read_elements a b payload before (take j (encoded e)) (front_formed w)
      ∙ ap (λ r. then r (judged payload)) (walk_cut (with_all nothing before) e j (all_split before e after w.each).1 some inside)

-- what the definition answers keeps all the laws
pub lawful : (xs : List ℕ) (r : Result Message ℕ) → r ≡ read xs → Reads xs r
lawful xs r value = record {
  value = value;
  first_counts = λ a b payload es w is. value ∙ ap read is ∙ first_counts a b payload es w;
  cut_in_payload = λ a b payload es k w h is. value ∙ ap read is ∙ cut_in_payload a b payload es k w h;
  cut_in_element = λ a b payload before e after k w h i is. value ∙ ap read is ∙ cut_in_element a b payload before e after k w h i;
  only_messages = λ all m is. only_messages xs all m (sym value ∙ is);
}
