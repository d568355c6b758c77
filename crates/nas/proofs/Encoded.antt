-- A message that a sender puts together is read as the first element of each kind.
use Rattle.std.proofs.Common.{◌≡◌, ℕ, zero, suc, ◌+◌, ◌/◌, ◌%◌, ◌<◌, ◌≤◌, Bool, true, false, cond, ltb, List, [], ◌∷◌, ◌++◌, length, take, drop, Some, None, Ok, Option, Result, sym, refl, ap, ◌∙◌, append_assoc, arith}
use Rattle.std.specs.List.{flat_map, AllByRecursion}
use Rattle.std.specs.Option.{option_map}
use Rattle.std.proofs.lemmas.List.{take_at, drop_at, drop-drop, length-append, length-take-le}
use Rattle.std.proofs.lemmas.Bool.{ltb-false, cond-true, cond-false, or_left, or_right}
use Rattle.nas.specs.Elements.{octet, pair, session_kind, octets_of_length, contents_length, element}
use Rattle.codes.specs.declared.refusal.Refusal.TheVariants.{Overrun}
use Rattle.codes.specs.Refusals.{refuse}
use Rattle.nas.specs.Uplinks.{Parts, else, first_if, checked_if, front, session_id, old_session_id, s_nssai, dnn_name, request_kind, request_bits, slice_length, slice_code, slice_in, dnn_length, dnn_in, noted, walk, then}
use Rattle.nas.specs.Messages.{Ie, length_field, encoded, Formed, first_of, session_number, firsts}
use Rattle.nas.proofs.Passing.{fitting, overrunning, walk_skip}

-- ---- one element: the octets of its length say how long its contents are

field_length : (s t u : Bool) (n : ℕ) → length (cond s [] (cond t (n ∷ []) (cond u (n / 256 ∷ n % 256 ∷ []) []))) ≡ cond s 0 (cond t 1 (cond u 2 0))
field_length true t u n = refl
field_length false true u n = refl
field_length false false true n = refl
field_length false false false n = refl

field_says : (s t u : Bool) (n : ℕ) (rest : List ℕ) → (s ≡ true → n ≡ 1) → (u ≡ false → n ≡ 0) → (λ (xs : List ℕ). cond s 1 (cond t (octet xs 0) (cond u (pair xs) 0))) (cond s [] (cond t (n ∷ []) (cond u (n / 256 ∷ n % 256 ∷ []) [])) ++ rest) ≡ n
field_says true t u n rest one none = sym (one refl)
field_says false true u n rest one none = refl
field_says false false true n rest one none = omega arith
field_says false false false n rest one none = sym (none refl)

-- an element that is cut short says that it is longer
field_overruns : (s t u : Bool) (c : List ℕ) (i : ℕ) → (s ≡ true → length c ≡ 1) → (u ≡ false → length c ≡ 0) → i < length (cond s [] (cond t (length c ∷ []) (cond u (length c / 256 ∷ length c % 256 ∷ []) [])) ++ c) → (λ (xs : List ℕ). length xs < cond s 0 (cond t 1 (cond u 2 0)) + cond s 1 (cond t (octet xs 0) (cond u (pair xs) 0))) (take i (cond s [] (cond t (length c ∷ []) (cond u (length c / 256 ∷ length c % 256 ∷ []) [])) ++ c))
field_overruns true t u c zero one none h = omega arith
field_overruns true t u c (suc i) one none h = absurd (omega (arith, one refl))
field_overruns false true u c zero one none h = omega arith
field_overruns false true u c (suc i) one none h = let l : i ≤ length c = omega arith in omega (arith, length-take-le i c l)
field_overruns false false true c zero one none h = omega arith
field_overruns false false true c (suc zero) one none h = omega arith
field_overruns false false true c (suc (suc i)) one none h = let l : i ≤ length c = omega arith in omega (arith, length-take-le i c l)
field_overruns false false false c i one none h = absurd (omega (arith, none refl))

module _ (e : Ie) (formed : Formed e) (rest : List ℕ) where
  abbrev lead : List ℕ
  lead = length_field e.identifier (length e.contents)

  lead_length : octets_of_length e.identifier ≡ length lead
  lead_length = sym (field_length (session_kind e.identifier) (ltb e.identifier 0x70) (ltb e.identifier 0x80) (length e.contents))

  lead_says : contents_length e.identifier (lead ++ (e.contents ++ rest)) ≡ length e.contents
  lead_says =
      field_says (session_kind e.identifier) (ltb e.identifier 0x70) (ltb e.identifier 0x80) (length e.contents) (e.contents ++ rest) formed.session
      (λ big. formed.alone (ltb-false e.identifier 0x80 big))

  behind_length : length (lead ++ (e.contents ++ rest)) ≡ length lead + (length e.contents + length rest)
  behind_length = simp length-append

  is_element : element e.identifier (lead ++ (e.contents ++ rest)) ≡ Ok (record { size = length lead + length e.contents; contents = e.contents })
  is_element =
      fitting e.identifier (lead ++ (e.contents ++ rest)) formed.known (omega (arith, behind_length, lead_length, lead_says))
      ∙ (λ i. Ok (record { size = lead_length i + lead_says i; contents = take (lead_says i) (drop (lead_length i) (lead ++ (e.contents ++ rest))) }))
      ∙ (λ i. Ok (record { size = length lead + length e.contents; contents = (ap (take (length e.contents)) (drop_at lead (e.contents ++ rest) (length lead) refl) ∙ take_at e.contents rest (length e.contents) refl) i }))

  -- the walk over one encoded element
  walk_one : (p q : Parts) → noted p e.identifier e.contents ≡ Ok q → walk 0 p (encoded e ++ rest) ≡ walk 0 q rest
  unfolding walk
  walk_one p q is =
      ap (λ xs. walk 0 p (e.identifier ∷ xs)) (append_assoc lead e.contents rest)
      ∙ ap (λ r. then r (λ y. then (noted p e.identifier y.contents) (λ z. walk y.size z (lead ++ (e.contents ++ rest))))) is_element
      ∙ ap (λ r. then r (λ z. walk (length lead + length e.contents) z (lead ++ (e.contents ++ rest)))) is
      ∙ walk_skip (length lead + length e.contents) q (lead ++ (e.contents ++ rest)) (omega (arith, behind_length))
      ∙ ap (walk 0 q) (sym (drop-drop (length e.contents) (length lead) (lead ++ (e.contents ++ rest))) ∙ ap (drop (length e.contents)) (drop_at lead (e.contents ++ rest) (length lead) refl) ∙ drop_at e.contents rest (length e.contents) refl)

-- the walk over one encoded element that is cut short
pub walk_cut : (p : Parts) (e : Ie) (j : ℕ) → Formed e → 0 < j → j < length (encoded e) → walk 0 p (take j (encoded e)) ≡ refuse Overrun
unfolding walk
walk_cut p e zero formed some short = absurd (omega arith)
walk_cut p e (suc i) formed some short =
    ap (λ r. then r (λ y. then (noted p e.identifier y.contents) (λ z. walk y.size z behind))) (overrunning e.identifier behind formed.known longer)
  where
    behind : List ℕ
    behind = take i (length_field e.identifier (length e.contents) ++ e.contents)

    longer : length behind < octets_of_length e.identifier + contents_length e.identifier behind
    longer =
        field_overruns (session_kind e.identifier) (ltb e.identifier 0x70) (ltb e.identifier 0x80) e.contents i formed.session
        (λ big. formed.alone (ltb-false e.identifier 0x80 big)) (omega arith)

-- ---- what one element adds to what is known

-- p, and what it lacks by the first of each kind
abbrev pub with_all : Parts → List Ie → Parts
with_all p es = record {
  session = else p.session (firsts es).session;
  old = else p.old (firsts es).old;
  request = else p.request (firsts es).request;
  slice = else p.slice (firsts es).slice;
  dnn = else p.dnn (firsts es).dnn;
}

-- f reads an element e, if its kind is wanted
abbrev told : {X : Type 0} → Bool → (Ie → X) → Ie → Option X
told b f e = option_map f (cond b (Some e) None)

added : {X : Type 0} (b : Bool) (o new : Option X) (f : Ie → X) (e : Ie) → (b ≡ true → new ≡ Some (f e)) → first_if b o new ≡ else o (told b f e)
added true o new f e h = ap (else o) (h refl)
added false None new f e h = refl
added false (Some x) new f e h = refl

checked : {X : Type 0} (b : Bool) (o : Option X) (new : Result X ℕ) (f : Ie → X) (e : Ie) → (o ≡ None → b ≡ true → new ≡ Ok (f e)) → checked_if b o new ≡ Ok (else o (told b f e))
checked true None new f e h = ap (λ r. then r (λ x. Ok (Some x))) (h refl refl)
checked true (Some x) new f e h = refl
checked false None new f e h = refl
checked false (Some x) new f e h = refl

none_told : {X : Type 0} (b : Bool) (o : Option X) (f : Ie → X) (e : Ie) → else o (told b f e) ≡ None → (o ≡ None) × (b ≡ false)
none_told true None f e h = absurd (cc)
none_told false None f e h = (refl, refl)
none_told true (Some x) f e h = absurd (cc)
none_told false (Some x) f e h = absurd (cc)

told_next : {X : Type 0} (b : Bool) (o : Option X) (f : Ie → X) (e : Ie) (next : Option Ie) → else (else o (told b f e)) (option_map f next) ≡ else o (option_map f (cond b (Some e) next))
told_next true None f e next = refl
told_next false None f e next = refl
told_next true (Some x) f e next = refl
told_next false (Some x) f e next = refl

else_none : {X : Type 0} (o : Option X) → else o None ≡ o
else_none None = refl
else_none (Some x) = refl

-- where a part o is not known yet, the first element that tells it has a good length
abbrev pub Fine : {X : Type 0} → (ℕ → Bool) → (ℕ → Bool) → Option X → List Ie → Type 0
Fine kind good o es = o ≡ None → (e : Ie) → first_of kind es ≡ Some e → good (length e.contents) ≡ true

module _ {X : Type 0} (kind good : ℕ → Bool) (o : Option X) (e : Ie) (es : List Ie) (h : Fine kind good o (e ∷ es)) where
  fine_here : o ≡ None → kind e.identifier ≡ true → good (length e.contents) ≡ true
  fine_here n k = h n e (cond-true _ _ _ k)

  fine_next : (f : Ie → X) → Fine kind good (else o (told (kind e.identifier) f e)) es
  fine_next f n next k = let m = none_told (kind e.identifier) o f e n in h m.0 next (cond-false _ _ _ m.1 ∙ k)

front_one : (c : List ℕ) → length c ≡ 1 → front c ≡ Some (octet c 0)
front_one [] h = absurd (omega arith)
front_one (x ∷ xs) h = refl

noted_one : (p : Parts) (e : Ie) → Formed e → (p.slice ≡ None → s_nssai e.identifier ≡ true → slice_length (length e.contents) ≡ true) → (p.dnn ≡ None → dnn_name e.identifier ≡ true → dnn_length (length e.contents) ≡ true) → noted p e.identifier e.contents ≡ Ok (with_all p (e ∷ []))
noted_one p e formed slice dnn =
    let x = e.identifier in
    let c = e.contents in
    ap (λ r. then r (λ s. then (checked_if (dnn_name x) p.dnn (dnn_in c)) (λ d. Ok (noted_parts s d)))) (checked (s_nssai x) p.slice (slice_in c) (λ y. slice_code y.contents) e (λ n k. cond-true _ _ _ (slice n k)))
    ∙ ap (λ r. then r (λ d. Ok (noted_parts (with_all p (e ∷ [])).slice d))) (checked (dnn_name x) p.dnn (dnn_in c) (λ y. y.contents) e (λ n k. cond-true _ _ _ (dnn n k)))
    ∙ (λ i. Ok (record {
      session = added (session_id x) p.session (front c) session_number e (λ k. front_one c (formed.session (or_left _ _ k))) i;
      old = added (old_session_id x) p.old (front c) session_number e (λ k. front_one c (formed.session (or_right _ _ k))) i;
      request = added (request_kind x) p.request (Some (request_bits x)) (λ y. request_bits y.identifier) e (λ _. refl) i;
      slice = (with_all p (e ∷ [])).slice;
      dnn = (with_all p (e ∷ [])).dnn;
    }))
  where
    noted_parts : Option ℕ → Option (List ℕ) → Parts
    noted_parts s d = record {
      session = first_if (session_id e.identifier) p.session (front e.contents);
      old = first_if (old_session_id e.identifier) p.old (front e.contents);
      request = first_if (request_kind e.identifier) p.request (Some (request_bits e.identifier));
      slice = s;
      dnn = d;
    }

-- the walk over encoded elements, whatever follows them
pub walk_all : (p : Parts) (es : List Ie) (rest : List ℕ) → AllByRecursion Formed es → Fine s_nssai slice_length p.slice es → Fine dnn_name dnn_length p.dnn es → walk 0 p (flat_map encoded es ++ rest) ≡ walk 0 (with_all p es) rest
walk_all p [] rest formed slice dnn =
    (λ i. walk 0 (record { session = sym (else_none p.session) i; old = sym (else_none p.old) i; request = sym (else_none p.request) i; slice = sym (else_none p.slice) i; dnn = sym (else_none p.dnn) i }) rest)
walk_all p (e ∷ es) rest formed slice dnn =
    ap (walk 0 p) (append_assoc (encoded e) (flat_map encoded es) rest)
    ∙ walk_one e formed.0 (flat_map encoded es ++ rest) p (with_all p (e ∷ [])) (noted_one p e formed.0 (fine_here s_nssai slice_length p.slice e es slice) (fine_here dnn_name dnn_length p.dnn e es dnn))
    ∙ walk_all (with_all p (e ∷ [])) es rest formed.1 (fine_next s_nssai slice_length p.slice e es slice (λ y. slice_code y.contents)) (fine_next dnn_name dnn_length p.dnn e es dnn (λ y. y.contents))
    ∙ (λ i. walk 0 (record {
      session = told_next (session_id e.identifier) p.session session_number e (first_of session_id es) i;
      old = told_next (old_session_id e.identifier) p.old session_number e (first_of old_session_id es) i;
      request = told_next (request_kind e.identifier) p.request (λ y. request_bits y.identifier) e (first_of request_kind es) i;
      slice = told_next (s_nssai e.identifier) p.slice (λ y. slice_code y.contents) e (first_of s_nssai es) i;
      dnn = told_next (dnn_name e.identifier) p.dnn (λ y. y.contents) e (first_of dnn_name es) i;
    }) rest)
