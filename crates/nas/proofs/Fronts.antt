-- A buffer that is written from the front, part by part.
use Rattle.std.proofs.Common.{◌≡◌, ℕ, ◌+◌, ◌/◌, ◌%◌, ◌<◌, ◌≤◌, true, List, [], ◌∷◌, ◌++◌, length, take, drop, Ok, sym, refl, ap, ◌∙◌, append_assoc, arith}
use Rattle.std.proofs.lemmas.List.{take_at, drop_at, drop-drop, length-append}
use Rattle.std.proofs.lemmas.Bool.{cond-true, cond-false, and_from, lt-ltb, le-ltb, le-leb}
use Rattle.codes.specs.declared.cause.Cause.{Cause}
use Rattle.codes.specs.Causes.{cause_number, back_off_octet}
use Rattle.nas.specs.Uplinks.{in_range, max_payload}
use Rattle.nas.specs.Returns.{return_header, return_overhead, back_off_element, returned, overwritten, Returns}

-- xs is o with w written over its front, up to the place r
pub record Front (o w xs : List ℕ) (r : ℕ) : Type 0 where
  pub is : xs ≡ w ++ drop r o
  pub long : length w ≡ r

pub front_none : (o : List ℕ) → Front o [] o 0
front_none o = record { is = refl; long = refl }

pub front_more : {o w xs : List ℕ} {at : ℕ} (ys zs : List ℕ) (r : ℕ) → Front o w xs at → r ≡ at + length ys → zs ≡ overwritten xs at ys → Front o (w ++ ys) zs r
front_more {o} {w} {xs} {at} ys zs r f end after =
    let before : take at xs ≡ w = ap (take at) f.is ∙ take_at w (drop at o) at f.long in
    let behind : drop (at + length ys) xs ≡ drop r o =
    sym (drop-drop (length ys) at xs) ∙ ap (drop (length ys)) (ap (drop at) f.is ∙ drop_at w (drop at o) at f.long) ∙ drop-drop (length ys) at o ∙ ap (λ k. drop k o) (sym end) in
    record {
      is = after ∙ (λ i. before i ++ (ys ++ behind i)) ∙ sym (append_assoc w ys (drop r o));
      long = length-append w ys ∙ (omega (arith, f.long));
    }

module _ (o payload : List ℕ) (session : ℕ) (cause : Cause) where
  -- once all parts are written, the output is the one that is promised
  pub written : (size : List ℕ) (number : ℕ) (back xs after : List ℕ) (r : ℕ) → size ≡ length payload / 256 ∷ length payload % 256 ∷ [] → number ≡ cause_number cause → back ≡ back_off_element (back_off_octet cause) → Front o ((((([] ++ return_header) ++ size) ++ payload) ++ (0x12 ∷ session ∷ 0x58 ∷ number ∷ [])) ++ back) xs r → after ≡ xs → 0 < length payload → length payload ≤ max_payload → in_range session ≡ true → length payload + return_overhead ≤ length o → Returns o payload session cause (Ok r) after
  written size number back xs after r sized numbered backed w last some few ranged room =
      let whole : ((((([] ++ return_header) ++ size) ++ payload) ++ (0x12 ∷ session ∷ 0x58 ∷ number ∷ [])) ++ back) ≡ returned payload session cause =
      (λ i. (((return_header ++ sized i) ++ payload) ++ (0x12 ∷ session ∷ 0x58 ∷ numbered i ∷ [])) ++ backed i) ∙ simp append_assoc in
      let long : length (returned payload session cause) ≡ r = ap length (sym whole) ∙ w.long in
      record {
        value = sym (cond-true _ _ _ (and_from _ _ (lt-ltb _ _ some) (le-leb _ _ few)) ∙ cond-true _ _ _ ranged ∙ cond-false _ _ _ (le-ltb _ _ room) ∙ ap Ok long);
        output = last ∙ w.is ∙ ap (λ l. l ++ drop r o) whole;
      }
