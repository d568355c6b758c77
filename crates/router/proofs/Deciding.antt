-- What a verdict on a message that was accepted keeps to, in the words of the calls.
use Rattle.std.proofs.Common.{◌≡◌, ℕ, zero, suc, ◌+◌, ◌-◌, ◌<◌, ◌≤◌, Bool, true, false, cond, List, [], ◌∷◌, length, Some, None, Option, MatchBool, option_map, refl, ap, sym, subst, ◌∙◌, arith}
use Rattle.std.proofs.lemmas.Bool.{false≢true}
use Rattle.directories.specs.Choices.{Chosen, Serving}
use Rattle.directories.specs.Meanings.{Lawful}
use Rattle.records.specs.Configurations.{configuration_fits}
use Rattle.records.specs.Records.{record_fits}
use Rattle.names.specs.Names.{same_name, number_from, number_of}
use Rattle.nas.specs.Uplinks.{Message, in_range}
use Rattle.accounts.specs.Receives.{Core, Received, case_on, verdict_on}
use Rattle.stores.specs.declared.context.Context.{Context}
use Rattle.stores.specs.Contexts.{lookup, fits}
use Rattle.verdicts.specs.declared.outcome.Outcome.{Outcome}
use Rattle.verdicts.specs.declared.outcome.Outcome.TheVariants.{Settled, Choose}
use Rattle.verdicts.specs.declared.verdict.Verdict.{Verdict}
use Rattle.verdicts.specs.Laws.{Judged, answer_of, choice_of}
use Rattle.verdicts.specs.Rules.{ruling}
use Rattle.verdicts.specs.Rulings.{asks_directory}
use Rattle.verdicts.specs.Verdicts.{smf_of, decision, context_of}
use Rattle.runs.specs.Calls.{RightChoice}

-- a directory's answer as a choice that serves
serving : (opened : Bool) (serves takes : ℕ → Bool) (m : Option ℕ) → serves 0 ≡ false → (opened ≡ false → m ≡ None) → Chosen opened serves takes (answer_of opened m) → Serving opened serves m
serving false serves takes None none closed h = λ e. absurd (false≢true e)
serving false serves takes (Some m) none closed h = absurd (let e = closed refl in cc)
serving true serves takes None none closed h = λ e. h.1
serving true serves takes (Some zero) none closed h = absurd (false≢true (sym none ∙ h.1))
serving true serves takes (Some (suc m)) none closed h = (refl, h.1, omega arith)

closed_chooses_none : (o : Outcome) (opened : Bool) (m : Option ℕ) → asks_directory o ≡ true → opened ≡ false → smf_of (decision o opened m) ≡ None
closed_chooses_none (Settled d) opened m asked closed = absurd (false≢true asked)
closed_chooses_none (Choose emergency) false m asked closed = refl
closed_chooses_none (Choose emergency) true m asked closed = absurd (false≢true (sym closed))

module _ (core : Core) (xs : List Context) (r : Received) (x : Message) (takes : ℕ → ℕ → ℕ → Bool) (v : Verdict) (judged : Judged (case_on core xs r x) r.is_open r.serves takes v) where
  abbrev outcome : Outcome
  outcome = (ruling (case_on core xs r x)).outcome

  -- the SMF that the directory chose
  abbrev chosen : Option ℕ
  chosen = choice_of outcome v.decision

  pub is : v ≡ verdict_on core xs r chosen x
  is = judged.value

  asked_choice : (o : Outcome) → asks_directory o ≡ true → choice_of o v.decision ≡ smf_of v.decision
  asked_choice (Settled d) e = absurd (false≢true e)
  asked_choice (Choose emergency) e = refl

  unasked_choice : (o : Outcome) → asks_directory o ≡ false → choice_of o v.decision ≡ None
  unasked_choice (Settled d) e = refl
  unasked_choice (Choose emergency) e = absurd (false≢true (sym e))

  right : Lawful r.serves takes → (b : Bool) → asks_directory outcome ≡ b → MatchBool b (Serving r.is_open (r.serves v.used.slice v.used.dnn) chosen) (chosen ≡ None)
  right lawful false e = unasked_choice outcome e
  right lawful true e =
      let s = asked_choice outcome e in
      subst (Serving r.is_open (r.serves v.used.slice v.used.dnn)) (sym s)
      (serving r.is_open (r.serves v.used.slice v.used.dnn) (takes v.used.slice v.used.dnn) (smf_of v.decision) (lawful.identified _ _) (λ closed. ap (λ (w : Verdict). smf_of w.decision) judged.value ∙ closed_chooses_none outcome r.is_open chosen e closed) (judged.choice e))

  pub choice : Lawful r.serves takes → RightChoice core xs r chosen x
  choice lawful =
      subst (λ (w : Verdict). MatchBool (asks_directory outcome) (Serving r.is_open (r.serves w.used.slice w.used.dnn) chosen) (chosen ≡ None)) judged.value (right lawful (asks_directory outcome) refl)

-- ---- the number of a name is that of a name in the book

either : (b : Bool) (k n bound : ℕ) → k ≤ bound → n ≤ bound → cond b k n ≤ bound
either true k n bound h i = h
either false k n bound h i = i

number_bound : (names : List (List ℕ)) (k : ℕ) (name : List ℕ) → 0 < k → number_from k names name ≤ length names + (k - 1)
number_bound [] k name some = omega arith
number_bound (n ∷ ns) k name some =
    let rest = number_bound ns (suc k) name (omega arith) in
    either (same_name n name) k (number_from (suc k) ns name) (length (n ∷ ns) + (k - 1)) (omega arith) (omega (arith, rest))

pub known_number : (names : List (List ℕ)) (name : List ℕ) → number_of names name ≤ length names
known_number names name = omega (arith, number_bound names 1 name (omega arith))

dnn_number : (names : List (List ℕ)) (o : Option (List ℕ)) (d : ℕ) → option_map (number_of names) o ≡ Some d → d ≤ length names
dnn_number names None d e = absurd (cc)
dnn_number names (Some name) d e = let k = known_number names name in let same : number_of names name ≡ d = cc in omega arith

-- ---- the context that is to be put is in bounds

pub bounded : (core : Core) (xs : List Context) (r : Received) (x : Message) (takes : ℕ → ℕ → ℕ → Bool) (v : Verdict) → Judged (case_on core xs r x) r.is_open r.serves takes v → length core.names ≤ 64 → record_fits (length core.names) r.ue ≡ true → configuration_fits (length core.names) core.configuration ≡ true → in_range x.session ≡ true → ((u k : ℕ) (c : Context) → lookup xs u k ≡ Some c → fits c ≡ true) → Lawful r.serves takes → (c : Context) → context_of v r.ue.number x.session ≡ Some c → fits c ≡ true
bounded core xs r x takes v judged few ue configuration session contexts lawful c e =
    judged.bounded (length core.names) (record { book_in = few; record_in = ue; configuration_in = configuration; session_in = session; dnn_in = λ d h. dnn_number core.names x.dnn d h; contexts_in = contexts; identified = lawful.identified }) c e
