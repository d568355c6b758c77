-- What holds of each rule's ruling, and so of the first one's that applies.
use Rattle.std.proofs.Common.{rules, ◌≡◌, ℕ, Bool, true, false, cond, not, ◌&&◌, ◌||◌, ◌⊎◌, eqb, List, [], ◌∷◌, is_some, Some, None, Option, unwrap_or, option_map, sym, refl, ap, ◌∙◌, subst, inl, inr}
use Rattle.std.specs.List.{find, list_any}
use Rattle.std.specs.Option.{option_or, option_and_then}
use Rattle.std.proofs.lemmas.List.Folds.{list_any_at}
use Rattle.tables.proofs.Lists.{passes_at}
use Rattle.std.proofs.lemmas.Bool.{and_parts, eq-eqb, false≢true}
use Rattle.codes.specs.declared.cause.Cause.{Cause}
use Rattle.codes.specs.declared.cause.Cause.TheVariants.{Congestion, SliceAndDnnCongestion, SliceCongestion, NotForwarded, MaximumSessions}
use Rattle.codes.specs.declared.request_type.RequestType.{RequestType}
use Rattle.codes.specs.declared.request_type.RequestType.TheVariants.{Initial, Existing, InitialEmergency, ExistingEmergency, Modification}
use Rattle.codes.specs.Causes.{cause_number, back_off_octet}
use Rattle.codes.specs.declared.slice_dnn.SliceDnn.{SliceDnn}
use Rattle.control.specs.declared.control_key.ControlKey.TheVariants.{Dnn, SliceAndDnn, Slice}
use Rattle.records.specs.declared.known_line.KnownLine.{KnownLine}
use Rattle.records.specs.Configurations.{emergency_smf}
use Rattle.records.specs.Firsts.{known_session, known_dnn}
use Rattle.stores.specs.declared.context.Context.{Context}
use Rattle.stores.specs.Contexts.{lookup, emergency_at, lowest_emergency, sessions}
use Rattle.verdicts.specs.declared.outcome.Outcome.{Outcome}
use Rattle.verdicts.specs.declared.outcome.Outcome.TheVariants.{Settled, Choose}
use Rattle.verdicts.specs.declared.ruling.Ruling.{Ruling}
use Rattle.verdicts.specs.Rulings.{only, settled}
use Rattle.verdicts.specs.declared.decision.Decision.{Decision}
use Rattle.verdicts.specs.declared.decision.Decision.TheVariants.{Forward, Establish, Return}
use Rattle.verdicts.specs.Used.{used}
use Rattle.verdicts.specs.Verdicts.{smf_of, cause_of, octet_of, establishes}
use Rattle.codes.specs.RequestTypes.{request_number}
use Rattle.verdicts.specs.Rules.{smf_in}
use Rattle.verdicts.specs.Cases.{for_emergency}
use Rattle.verdicts.specs.Cases.{Case, standing, requests, request_code}
use Rattle.verdicts.specs.Rules as given
use Rattle.verdicts.specs.Rules.{Rule, routes, first_ruling, ruling, ruling_with, rules_with}
use Rattle.verdicts.specs.Laws.{OneRule, StandingSmf, KnownSmf, EmergencySmf, StaticSmf}

-- ---- the first rule that applies

any_applies : List Rule → Bool
any_applies rs = list_any (λ r. r.applies) rs

abbrev pub First : List Rule → Type 0
First rs = list_any (λ r. r.applies) rs ≡ true → option_map (λ r. r.ruling) (find (λ r. r.applies) rs) ≡ Some (first_ruling rs)

first_of : (rs : List Rule) → First rs
first_of [] e = absurd (false≢true e)
first_of (r ∷ rs) e = go r.applies e (first_of rs)
  where
    go : (b : Bool) → (b || list_any (λ q. q.applies) rs) ≡ true → First rs → option_map (λ q. q.ruling) (cond b (Some r) (find (λ q. q.applies) rs)) ≡ Some (cond b r.ruling (first_ruling rs))
    go true q rest = refl
    go false q rest = rest q

-- with a context or without, some rule applies to each request type, and to none
covers : (t : Option RequestType) (s : Bool) → ((s && not (eqb (request_code t) 1)) || ((eqb (request_code t) 1) || ((not s && eqb (request_code t) 2) || ((not s && eqb (request_code t) 3) || ((not s && eqb (request_code t) 4) || ((not s && (not (is_some t) || eqb (request_code t) 5)) || false)))))) ≡ true
covers None true = refl
covers None false = refl
covers (Some Initial) true = refl
covers (Some Initial) false = refl
covers (Some Existing) true = refl
covers (Some Existing) false = refl
covers (Some InitialEmergency) true = refl
covers (Some InitialEmergency) false = refl
covers (Some ExistingEmergency) true = refl
covers (Some ExistingEmergency) false = refl
covers (Some Modification) true = refl
covers (Some Modification) false = refl

behind : (p q r s : Bool) {d : Bool} → d ≡ true → (p || (q || (r || (s || d)))) ≡ true
behind true q r s e = refl
behind false true r s e = refl
behind false false true s e = refl
behind false false false true e = refl
behind false false false false e = e

pub one_rule : (c : Case) → OneRule (given.rules c) (ruling c)
unfolding ruling_with
one_rule c =
    let u = used c.asked (standing c) in
    let covered = behind (given.awaits_with_emergency c.asked c.contexts (standing c)) (is_some (given.congestion c.asked c.back_off u)) (given.at_limit c.asked c.contexts) (given.barred c.asked (standing c)) (covers c.asked.request (is_some (standing c))) in
    record { covered = covered; first = first_of (given.rules c) covered }

-- ---- causes of control lines

and_false : (b : Bool) → (b && false) ≡ false
and_false true = refl
and_false false = refl

numbered : {cause other : Cause} → Some cause ≡ Some other → eqb (cause_number cause) 91 ≡ eqb (cause_number other) 91
numbered {cause} {other} e = ap (λ (o : Option Cause). eqb (cause_number (unwrap_or o cause)) 91) e

by_line : (b : Bool) (x y z : Option ℕ) (cause : Cause) → Some cause ≡ cond b (option_or (option_map Congestion x) (option_or (option_map SliceAndDnnCongestion y) (option_map SliceCongestion z))) None → eqb (cause_number cause) 91 ≡ false
by_line false x y z cause e = search rules
by_line true (Some x) y z cause e = numbered e
by_line true None (Some y) z cause e = numbered e
by_line true None None (Some z) cause e = numbered e
by_line true None None None cause e = search rules

-- ---- what holds of each ruling

pub not_91 : (n : ℕ) → eqb n 91 ≡ false → Some n ≡ Some 91 → ⊥
not_91 n d e = absurd (false≢true (sym d ∙ eq-eqb n 91 (ap (λ (o : Option ℕ). unwrap_or o 0) e)))

-- what f says of a decision that needs no directory
abbrev pub told : (Decision → Option ℕ) → Outcome → Option ℕ
told f (Settled d) = f d
told f (Choose emergency) = None

abbrev pub may_establish : Outcome → Bool
may_establish (Settled d) = establishes d
may_establish (Choose emergency) = true

-- the SMF has the session, or a known line, another emergency context or the configuration names it
abbrev pub Told : Case → ℕ → Type 0
Told c m = StandingSmf c m ⊎ (KnownSmf c m ⊎ (EmergencySmf c m ⊎ StaticSmf c m))

pub record Ruled (c : Case) (r : Ruling) : Type 0 where
  pub named : (m : ℕ) → told smf_of r.outcome ≡ Some m → Told c m
  pub supported : told cause_of r.outcome ≡ Some 91 → ⊥
  pub priority : c.asked.ue.high_priority ≡ true → told octet_of r.outcome ≡ None
  pub untyped : c.asked.request ≡ None → may_establish r.outcome ≡ false
  pub released : (m : ℕ) → r.release ≡ Some m → (requests Initial c.asked ≡ true) × StandingSmf c m

-- what each rule of a list rules where it applies
abbrev Each : Case → List Rule → Type 0
Each c [] = Unit {0}
Each c (r ∷ rs) = (r.applies ≡ true → Ruled c r.ruling) × Each c rs

module _ (c : Case) where
  -- a cause that carries no back-off octet, and is none of a directory's
  returned : (cause : Cause) → back_off_octet cause ≡ None → eqb (cause_number cause) 91 ≡ false → Ruled c (settled (Return cause))
  returned cause b d = record {
    named = λ m e. search rules;
    supported = λ e. not_91 (cause_number cause) d e;
    priority = λ h. b;
    untyped = λ e. refl;
    released = λ m e. search rules;
  }

  in_list : (rs : List Rule) → Each c rs → Ruled c (first_ruling rs)
  in_list [] e = returned NotForwarded refl refl
  in_list (r ∷ rs) e = go r.applies refl (in_list rs e.1)
    where
      go : (b : Bool) → r.applies ≡ b → Ruled c (first_ruling rs) → Ruled c (cond b r.ruling (first_ruling rs))
      go true q rest = e.0 q
      go false q rest = rest

  -- where the request has a type, there is no law of requests that have none
  typed : (t : RequestType) → requests t c.asked ≡ true → (r : Outcome) → c.asked.request ≡ None → may_establish r ≡ false
  typed t e r q = go t (sym e ∙ ap (λ o. eqb (request_code o) (request_number t)) q)
    where
      go : (t : RequestType) → true ≡ eqb 0 (request_number t) → may_establish r ≡ false
      go Initial z = absurd (false≢true (sym z))
      go Existing z = absurd (false≢true (sym z))
      go InitialEmergency z = absurd (false≢true (sym z))
      go ExistingEmergency z = absurd (false≢true (sym z))
      go Modification z = absurd (false≢true (sym z))

  -- a payload that goes to m, for which a context is put
  established : (t : RequestType) (emergency : Bool) (m : ℕ) → requests t c.asked ≡ true → Told c m → Ruled c (settled (Establish m emergency))
  established t emergency m q h = record {
    named = λ n e. subst (Told c) (ap (λ (o : Option ℕ). unwrap_or o 0) e) h;
    supported = λ e. search rules;
    priority = λ p. refl;
    untyped = typed t q (Settled (Establish m emergency));
    released = λ n e. search rules;
  }

  -- a choice by a directory, with what is released
  chooses : (t : RequestType) (emergency : Bool) (o : Option ℕ) → requests t c.asked ≡ true → ((m : ℕ) → o ≡ Some m → (requests Initial c.asked ≡ true) × StandingSmf c m) → Ruled c (record { outcome = Choose emergency; release = o })
  chooses t emergency o q h = record {
    named = λ m z. search rules;
    supported = λ z. search rules;
    priority = λ p. refl;
    untyped = typed t q (Choose emergency);
    released = h;
  }

  congestion_is : (u : SliceDnn) → given.congestion c.asked c.back_off u ≡ cond (given.held_off c.asked) (given.control_cause c.back_off u) None
  unfolding given.congestion
  congestion_is u = refl

  high : c.asked.ue.high_priority ≡ true → given.held_off c.asked ≡ false
  unfolding given.held_off
  high h = ap (λ b. (requests Initial c.asked || (requests Existing c.asked || requests Modification c.asked)) && not b) h ∙ and_false _

  -- 2: congestion
  congested : (u : SliceDnn) (o : Option Cause) → o ≡ given.congestion c.asked c.back_off u → is_some o ≡ true → Ruled c (settled (Return (unwrap_or o NotForwarded)))
  congested u None e s = absurd (false≢true s)
  congested u (Some cause) e s = record {
    named = λ m q. search rules;
    supported = λ q. not_91 (cause_number cause) (by_line (given.held_off c.asked) (c.back_off (Dnn u.dnn)) (c.back_off (SliceAndDnn u.slice u.dnn)) (c.back_off (Slice u.slice)) cause (e ∙ congestion_is u)) q;
    priority = λ h. absurd (held (given.held_off c.asked) (e ∙ congestion_is u) (high h));
    untyped = λ q. refl;
    released = λ m q. search rules;
  }
    where
      held : (b : Bool) → Some cause ≡ cond b (given.control_cause c.back_off u) None → b ≡ false → ⊥
      held true q z = absurd (false≢true (sym z))
      held false q z = search rules

  -- 5: a context stands
  kept : (o : Option Context) → standing c ≡ o → Ruled c (only (given.kept_outcome c.asked o))
  unfolding given.kept_outcome
  kept None e = returned NotForwarded refl refl
  kept (Some x) e = go (for_emergency c.asked) x.emergency
    where
      forwarded : Ruled c (settled (Forward x.smf))
      forwarded = record {
        named = λ m q. inl (ap smf_in e ∙ q);
        supported = λ q. search rules;
        priority = λ h. refl;
        untyped = λ q. refl;
        released = λ m q. search rules;
      }

      go : (b d : Bool) → Ruled c (only (cond b (Settled (cond d (Forward x.smf) (Return NotForwarded))) (Settled (Forward x.smf))))
      go true true = forwarded
      go true false = returned NotForwarded refl refl
      go false d = forwarded

  -- 7 and 9: a known line
  known : (t : RequestType) (emergency : Bool) → requests t c.asked ≡ true → (o : Option ℕ) → ((m : ℕ) → o ≡ Some m → KnownSmf c m) → Ruled c (only (given.established emergency o))
  known t emergency q None h = returned NotForwarded refl refl
  known t emergency q (Some m) h = established t emergency m q (inr (inl (h m refl)))

  -- 8: another emergency session, the static SMF or the directory
  urgent : requests InitialEmergency c.asked ≡ true → (o : Option ℕ) → ((m : ℕ) → o ≡ Some m → EmergencySmf c m ⊎ StaticSmf c m) → Ruled c (only (given.or_choice o))
  urgent q None h = chooses InitialEmergency true None q (λ m z. search rules)
  urgent q (Some m) h = established InitialEmergency true m q (inr (inr (h m refl)))

  -- the SMFs of known lines
  named_line : (t : KnownLine → Bool) (m : ℕ) → option_map (λ l. l.smf) (find t c.asked.ue.known) ≡ Some m → KnownSmf c m
  named_line t m e = go (find t c.asked.ue.known) refl e
    where
      go : (o : Option KnownLine) → find t c.asked.ue.known ≡ o → option_map (λ l. l.smf) o ≡ Some m → KnownSmf c m
      go None f z = search rules
      go (Some l) f z =
          let p = passes_at t c.asked.ue.known l f in
          list_any_at (λ k. eqb k.smf m) c.asked.ue.known p.0 l p.1.0 (eq-eqb _ _ (ap (λ (k : KnownLine). k.smf) (p.1.1.0 l) ∙ search rules))

  known_lines : (m : ℕ) → given.known_smf c.asked ≡ Some m → KnownSmf c m
  unfolding given.known_smf
  known_lines m e = go (known_session c.asked.ue c.asked.session) refl e
    where
      by_dnn : (d : Option ℕ) → option_and_then (known_dnn c.asked.ue) d ≡ Some m → KnownSmf c m
      by_dnn None z = search rules
      by_dnn (Some n) z = named_line (λ l. eqb l.dnn n) m z

      go : (o : Option ℕ) → known_session c.asked.ue c.asked.session ≡ o → option_or o (option_and_then (known_dnn c.asked.ue) c.asked.dnn) ≡ Some m → KnownSmf c m
      go None f z = by_dnn c.asked.dnn z
      go (Some n) f z = named_line (λ l. eqb l.session c.asked.session) m (f ∙ z)

  urgent_smf : (m : ℕ) → given.emergency_smf_of c.asked c.contexts ≡ Some m → EmergencySmf c m ⊎ StaticSmf c m
  unfolding given.emergency_smf_of
  urgent_smf m e = go (lowest_emergency c.contexts c.asked.ue.number c.asked.session) refl e
    where
      context_of : ℕ → Option Context
      context_of j = lookup c.contexts c.asked.ue.number j

      at : (j : ℕ) → emergency_at c.contexts c.asked.ue.number c.asked.session j ≡ true → (o : Option Context) → context_of j ≡ o → option_or (smf_in o) (emergency_smf c.asked.configuration) ≡ Some m → EmergencySmf c m ⊎ StaticSmf c m
      at j p None f z = inr z
      at j p (Some x) f z = inl (j, p, ap smf_in f ∙ z)

      go : (o : Option ℕ) → lowest_emergency c.contexts c.asked.ue.number c.asked.session ≡ o → option_or (option_and_then (λ j. smf_in (context_of j)) o) (emergency_smf c.asked.configuration) ≡ Some m → EmergencySmf c m ⊎ StaticSmf c m
      go None f z = inr z
      go (Some j) f z = at j (passes_at (emergency_at c.contexts c.asked.ue.number c.asked.session) sessions j f).1.1.1 (context_of j) refl z

  back : (cause : Cause) (b : Bool) → back_off_octet cause ≡ None → eqb (cause_number cause) 91 ≡ false → b ≡ true → Ruled c (settled (Return cause))
  back cause b o d e = returned cause o d

  -- 7
  existing : (given.none (standing c) && requests Existing c.asked) ≡ true → Ruled c (only (given.established false (given.known_smf c.asked)))
  existing e = known Existing false (and_parts (given.none (standing c)) (requests Existing c.asked) e).1 (given.known_smf c.asked) known_lines

  -- 8
  emergency : (given.none (standing c) && requests InitialEmergency c.asked) ≡ true → Ruled c (only (given.or_choice (given.emergency_smf_of c.asked c.contexts)))
  emergency e = urgent (and_parts (given.none (standing c)) (requests InitialEmergency c.asked) e).1 (given.emergency_smf_of c.asked c.contexts) urgent_smf

  -- 9
  existing_emergency : (given.none (standing c) && requests ExistingEmergency c.asked) ≡ true → Ruled c (only (given.established true (known_dnn c.asked.ue c.asked.configuration.emergency.dnn)))
  existing_emergency e =
      let n = c.asked.configuration.emergency.dnn in
      known ExistingEmergency true (and_parts (given.none (standing c)) (requests ExistingEmergency c.asked) e).1 (known_dnn c.asked.ue n) (named_line (λ l. eqb l.dnn n))

  -- 5 to 10
  last_six : Each c (routes c.asked (given.emergency_smf_of c.asked c.contexts) (standing c))
  last_six =
      ((λ e. kept (standing c) refl), ((λ e. chooses Initial false (smf_in (standing c)) e (λ m q. (e, q))), (existing, (emergency, (existing_emergency, (back NotForwarded _ refl refl, tt))))))

  -- all ten
  pub ruled : Ruled c (ruling c)
  unfolding ruling_with
  ruled =
      in_list (given.rules c) (back NotForwarded _ refl refl, (congested (used c.asked (standing c)) _ refl, (back MaximumSessions _ refl refl, (back NotForwarded _ refl refl, last_six))))
