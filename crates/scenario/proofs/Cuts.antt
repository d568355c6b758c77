-- A line is cut into its words at the spaces.
use Rattle.std.proofs.Common.{◌≡◌, ℕ, ◌+◌, ◌-◌, ◌<◌, ◌≤◌, List, [], ◌∷◌, ◌++◌, map, length, get_or, take, drop, Ok, Err, IfOk, vec_items, Bor, Vec, Result, sym, refl, ap, ◌∙◌, subst, append_assoc, append-nil, arith}
use Rattle.std.specs.List.{between, AllByRecursion}
use Rattle.std.proofs.lemmas.List.Edits.{length-between, between_more}
use Rattle.std.proofs.lemmas.List.{drop_more, drop_all, map_push}
use Rattle.std.proofs.lemmas.Bool.{cond-true, cond-false, eq-eqb, ne_eqb}
use Rattle.scenario.specs.Words.{text, word_before, words_after, words, Word, spaced}

kept : (w : List ℕ) (ws : List (List ℕ)) → 0 < length w → word_before w ws ≡ w ∷ ws
kept [] ws h = absurd (omega arith)
kept (x ∷ w) ws h = refl

run_on : (w v rest : List ℕ) → AllByRecursion (λ x. x ≡ 0x20 → ⊥) v → words_after w (v ++ rest) ≡ words_after (w ++ v) rest
run_on w [] rest h = ap (λ l. words_after l rest) (sym (append-nil w))
run_on w (x ∷ v) rest h =
    cond-false _ _ _ (ne_eqb x 0x20 h.0) ∙ run_on (w ++ x ∷ []) v rest h.1 ∙ ap (λ l. words_after l rest) (append_assoc w (x ∷ []) v)

-- words with one space between them are the words of that line
pub words_back : (ws : List (List ℕ)) → AllByRecursion Word ws → words (spaced ws) ≡ ws
words_back [] h = refl
words_back (w ∷ []) h = ap words (sym (append-nil w)) ∙ run_on [] w [] h.0.1 ∙ kept w [] h.0.0
words_back (w ∷ v ∷ ws) h =
    run_on [] w (0x20 ∷ spaced (v ∷ ws)) h.0.1 ∙ kept w _ h.0.0 ∙ ap (λ l. w ∷ l) (words_back (v ∷ ws) h.1)

-- so where words were found, they are read back
pub words_law : {Z E : Type 0} (line : List ℕ) (r : Result (Vec (Bor (List ℕ)) Z) E) → IfOk r (λ v. map text (vec_items v) ≡ words line) → IfOk r (λ v. (ws : List (List ℕ)) → AllByRecursion Word ws → line ≡ spaced ws → map text (vec_items v) ≡ ws)
words_law line (Ok v) e = λ ws h f. e ∙ ap words f ∙ words_back ws h
words_law line (Err x) e = tt

-- one slice more
pub one_found : (rs : List (Bor (List ℕ))) (r : Bor (List ℕ)) {ts : List (Bor (List ℕ))} → ts ≡ rs ++ r ∷ [] → map text ts ≡ map text rs ++ text r ∷ []
one_found rs r e = ap (map text) e ∙ map_push text rs r

-- the words found, and the run from start to i with what is left, make the line's words
abbrev pub Sofar : List ℕ → List (List ℕ) → ℕ → ℕ → Type 0
Sofar line found start i = (start ≤ i) × (found ++ words_after (between start i line) (drop i line) ≡ words line)

pub moved : (line : List ℕ) (i : ℕ) {found to : List (List ℕ)} {start at : ℕ} → to ≡ found → at ≡ start → Sofar line found start i → Sofar line to at i
moved line i {found} {to} {start} {at} e f h =
    subst (λ ws. Sofar line ws at i) (sym e) (subst (λ s. Sofar line found s i) (sym f) h)

empty : (line : List ℕ) (start i : ℕ) → i ≤ start → between start i line ≡ []
empty line start i l = let e : i - start ≡ 0 = omega arith in ap (λ n. take n (drop start line)) e

module _ (line : List ℕ) (found : List (List ℕ)) (start i : ℕ) (h : Sofar line found start i) where
  -- the octet at i is no space
  pub go_on : i < length line → (get_or line i 0 ≡ 0x20 → ⊥) → Sofar line found start (i + 1)
  go_on l k = (
    omega (arith, h.0),
    ap (λ w. found ++ words_after w (drop (i + 1) line)) (between_more line start i 0 h.0 l)
        ∙ sym (ap (λ ws. found ++ ws) (ap (words_after (between start i line)) (drop_more line i 0 l) ∙ cond-false _ _ _ (ne_eqb _ 0x20 k)))
        ∙ h.1,
  )

  -- the word that ends at i, where there is one, before the words past i
  ended : (ws : List (List ℕ)) → words_after (between start i line) (drop i line) ≡ word_before (between start i line) ws → found ++ word_before (between start i line) ws ≡ words line
  ended ws e = ap (λ l. found ++ l) (sym e) ∙ h.1

  -- it is there from start on
  with_word : i ≤ length line → start < i → (ws : List (List ℕ)) → found ++ word_before (between start i line) ws ≡ words line → (found ++ between start i line ∷ []) ++ ws ≡ words line
  with_word l k ws e =
      append_assoc found (between start i line ∷ []) ws ∙ ap (λ l. found ++ l) (sym (kept _ ws (omega (arith, length-between line start i l)))) ∙ e

  with_none : i ≤ start → (ws : List (List ℕ)) → found ++ word_before (between start i line) ws ≡ words line → found ++ ws ≡ words line
  with_none k ws e = ap (λ w. found ++ word_before w ws) (sym (empty line start i k)) ∙ e

  at_space : i < length line → get_or line i 0 ≡ 0x20 → words_after (between start i line) (drop i line) ≡ word_before (between start i line) (words_after (between (i + 1) (i + 1) line) (drop (i + 1) line))
  at_space l k =
      ap (words_after (between start i line)) (drop_more line i 0 l) ∙ cond-true _ _ _ (eq-eqb _ 0x20 k)
      ∙ ap (λ w. word_before (between start i line) (words_after w (drop (i + 1) line))) (sym (empty line (i + 1) (i + 1) (omega arith)))

  at_end : length line ≤ i → words_after (between start i line) (drop i line) ≡ word_before (between start i line) []
  at_end l = ap (words_after (between start i line)) (drop_all i line l)

  -- the octet at i is a space, and a word ends there, or none
  pub cut : i < length line → get_or line i 0 ≡ 0x20 → start < i → Sofar line (found ++ between start i line ∷ []) (i + 1) (i + 1)
  cut l k s = (omega arith, with_word (omega arith) s _ (ended _ (at_space l k)))

  pub pass : i < length line → get_or line i 0 ≡ 0x20 → i ≤ start → Sofar line found (i + 1) (i + 1)
  pass l k s = (omega arith, with_none s _ (ended _ (at_space l k)))

  -- the line ends at i, and a word with it, or none
  pub cut_last : i ≡ length line → start < length line → found ++ between start (length line) line ∷ [] ≡ words line
  cut_last l s =
      ap (λ n. found ++ between start n line ∷ []) (sym l) ∙ sym (append-nil _) ∙ with_word (omega arith) (omega arith) [] (ended [] (at_end (omega arith)))

  pub pass_last : i ≡ length line → length line ≤ start → found ≡ words line
  pass_last l s = sym (append-nil found) ∙ with_none (omega arith) [] (ended [] (at_end (omega arith)))
