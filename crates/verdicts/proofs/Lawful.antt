-- What holds of a verdict that the rules give, with a directory that chose rightly where it was asked.
use Rattle.std.proofs.Common.{◌≡◌, ℕ, Bool, true, false, cond, nat_le, not, ◌&&◌, ◌||◌, ◌⊎◌, eqb, List, is_some, Some, None, Option, unwrap_or, sym, refl, ap, ◌∙◌, subst, inl, inr}
use Rattle.std.proofs.lemmas.Bool.{false≢true}
use Rattle.codes.specs.declared.request_type.RequestType.{RequestType}
use Rattle.codes.specs.declared.request_type.RequestType.TheVariants.{Initial, Existing, InitialEmergency, ExistingEmergency, Modification}
use Rattle.codes.specs.RequestTypes.{request_number}
use Rattle.directories.specs.Choices.{Chosen}
use Rattle.codes.specs.declared.slice_dnn.SliceDnn.{SliceDnn}
use Rattle.control.specs.declared.control_key.ControlKey.{ControlKey}
use Rattle.stores.specs.Contexts.{others_of}
use Rattle.stores.specs.declared.context.Context.{Context}
use Rattle.verdicts.specs.declared.decision.Decision.TheVariants.{Forward}
use Rattle.verdicts.specs.declared.outcome.Outcome.{Outcome}
use Rattle.verdicts.specs.declared.outcome.Outcome.TheVariants.{Settled, Choose}
use Rattle.verdicts.specs.declared.ruling.Ruling.{Ruling}
use Rattle.verdicts.specs.Rulings.{only, settled, asks_directory}
use Rattle.verdicts.specs.declared.verdict.Verdict.{Verdict}
use Rattle.verdicts.specs.Cases.{Asked, Case, standing, requests, request_code, for_emergency}
use Rattle.verdicts.specs.Rules as given
use Rattle.verdicts.specs.Rules.{Rule, first_ruling, ruling, ruling_with, routes}
use Rattle.verdicts.specs.Used.{used}
use Rattle.verdicts.specs.Verdicts.{smf_of, cause_of, octet_of, establishes, verdict, decision}
use Rattle.verdicts.specs.Laws.{Judged, answer_of, choice_of, StandingSmf, KnownSmf, EmergencySmf, StaticSmf, ServingSmf}
use Rattle.verdicts.proofs.Alike.{alike}
use Rattle.verdicts.proofs.Bounded.{smf_above, put_fits}
use Rattle.verdicts.proofs.Ruled.{Told, told, may_establish, not_91, ruled, one_rule}

-- ---- a message with no request type, of a session that has a context

-- the fifth of five in a row
fifth : (b d e f g : Bool) (p q r s t u : Ruling) → b ≡ false → d ≡ false → e ≡ false → f ≡ false → g ≡ true → cond b p (cond d q (cond e r (cond f s (cond g t u)))) ≡ t
fifth b d e f g p q r s t u x y z v w = λ i. cond (x i) p (cond (y i) q (cond (z i) r (cond (v i) s (cond (w i) t u))))

module _ (a : Asked) (absent : a.request ≡ None) where
  untyped : (t : RequestType) → requests t a ≡ false
  untyped t = ap (λ o. eqb (request_code o) (request_number t)) absent ∙ numbered t
    where
      numbered : (t : RequestType) → eqb 0 (request_number t) ≡ false
      numbered Initial = refl
      numbered Existing = refl
      numbered InitialEmergency = refl
      numbered ExistingEmergency = refl
      numbered Modification = refl

  not_emergency : for_emergency a ≡ false
  not_emergency = λ i. untyped InitialEmergency i || untyped ExistingEmergency i

  awaits : (xs : List Context) (o : Option Context) → given.awaits_with_emergency a xs o ≡ false
  unfolding given.awaits_with_emergency
  awaits xs o = ap (λ b. b && (a.ue.awaits_registration && given.has_emergency a xs o)) (untyped Initial)

  not_held_off : given.held_off a ≡ false
  unfolding given.held_off
  not_held_off =
      λ i. (untyped Initial i || (untyped Existing i || untyped Modification i)) && not a.ue.high_priority

  uncongested : (back_off : ControlKey → Option ℕ) (u : SliceDnn) → given.congestion a back_off u ≡ None
  unfolding given.congestion
  uncongested back_off u = ap (λ b. cond b (given.control_cause back_off u) None) not_held_off

  unlimited : (xs : List Context) → given.at_limit a xs ≡ false
  unfolding given.at_limit
  unlimited xs =
      λ i. (untyped Initial i || untyped Existing i) && nat_le a.ue.session_limit (others_of xs a.ue.number a.session)

  unbarred : (o : Option Context) → given.barred a o ≡ false
  unfolding given.barred
  unbarred o = ap (λ b. b && given.is_barred a o) (untyped Existing)

kept_is : (a : Asked) (o : Option Context) (x : Context) → for_emergency a ≡ false → o ≡ Some x → only (given.kept_outcome a o) ≡ settled (Forward x.smf)
unfolding given.kept_outcome
kept_is a o x f e =
    ap (λ d. only (given.kept_outcome a d)) e ∙ ap (λ b. only (cond b (given.kept_emergency x) (Settled (Forward x.smf)))) f

pub goes_on : (c : Case) (x : Context) → c.asked.request ≡ None → standing c ≡ Some x → ruling c ≡ settled (Forward x.smf)
unfolding ruling_with
goes_on c x absent e =
    let a = c.asked in
    let n = untyped a absent in
    fifth (given.awaits_with_emergency a c.contexts (standing c)) (is_some (given.congestion a c.back_off (used a (standing c)))) (given.at_limit a c.contexts) (given.barred a (standing c)) (is_some (standing c) && not (requests Initial a)) _ _ _ _ _ _
    (awaits a absent c.contexts (standing c))
    (ap is_some (uncongested a absent c.back_off (used a (standing c))))
    (unlimited a absent c.contexts)
    (unbarred a absent (standing c))
    (λ i. is_some (e i) && not (n Initial i))
    ∙ kept_is a (standing c) x (not_emergency a absent) e

-- ---- what holds of the verdict, by the ruling that it goes by

module _ (c : Case) (opened : Bool) (serves takes : ℕ → ℕ → ℕ → Bool) (v : Verdict) where
  -- the directory's answer is right, where the rules say r and it has to choose
  abbrev Choice : Outcome → Type 0
  Choice r = asks_directory r ≡ true → Chosen opened (serves v.used.slice v.used.dnn) (takes v.used.slice v.used.dnn) (answer_of opened (smf_of v.decision))

  abbrev Decided : Outcome → Type 0
  Decided r = v.decision ≡ decision r opened (smf_of v.decision)

  abbrev From : ℕ → Type 0
  From m = StandingSmf c m ⊎ (KnownSmf c m ⊎ (EmergencySmf c m ⊎ (StaticSmf c m ⊎ ServingSmf opened serves v.used m)))

  widened : (m : ℕ) → Told c m → From m
  widened m (inl x) = inl x
  widened m (inr (inl x)) = inr (inl x)
  widened m (inr (inr (inl x))) = inr (inr (inl x))
  widened m (inr (inr (inr x))) = inr (inr (inr (inl x)))

  -- what a directory makes of it that is open or closed, as b says, and that chose o, if anything
  abbrev By : Bool → Option ℕ → Bool → Type 0
  By b o emergency = (v.decision ≡ decision (Choose emergency) b o) × Chosen b (serves v.used.slice v.used.dnn) (takes v.used.slice v.used.dnn) (answer_of b o)

  abbrev NoneServes : Type 0
  NoneServes = (m : ℕ) → serves v.used.slice v.used.dnn m ≡ false

  served : (b : Bool) (o : Option ℕ) (emergency : Bool) → opened ≡ b → By b o emergency → (m : ℕ) → smf_of v.decision ≡ Some m → ServingSmf opened serves v.used m
  served true (Some n) emergency p h m e =
      let q : Some n ≡ Some m = sym (ap smf_of h.0) ∙ e in
      (p, subst (λ k. serves v.used.slice v.used.dnn k ≡ true) (ap (λ (d : Option ℕ). unwrap_or d n) q) h.1.1)
  served true None emergency p h m e = absurd (false≢true (ap is_some (sym (ap smf_of h.0) ∙ e)))
  served false o emergency p h m e = absurd (false≢true (ap is_some (sym (ap smf_of h.0) ∙ e)))

  none_serves : (b : Bool) (o : Option ℕ) (emergency : Bool) → opened ≡ b → By b o emergency → cause_of v.decision ≡ Some 91 → (opened ≡ true) × NoneServes
  none_serves true (Some n) emergency p h e = absurd (false≢true (ap is_some (sym (ap cause_of h.0) ∙ e)))
  none_serves true None emergency p h e = (p, h.1.1)
  none_serves false o emergency p h e = absurd (not_91 90 refl (sym (ap cause_of h.0) ∙ e))

  goes_back : (b : Bool) (o : Option ℕ) (emergency : Bool) → opened ≡ b → By b o emergency → opened ≡ true → NoneServes → cause_of v.decision ≡ Some 91
  goes_back true (Some n) emergency p h e s = absurd (false≢true (sym (s n) ∙ h.1.1))
  goes_back true None emergency p h e s = ap cause_of h.0
  goes_back false o emergency p h e s = absurd (false≢true (sym p ∙ e))

  no_octet : (b : Bool) (o : Option ℕ) (emergency : Bool) → v.decision ≡ decision (Choose emergency) b o → octet_of v.decision ≡ None
  no_octet true (Some n) emergency e = ap octet_of e
  no_octet true None emergency e = ap octet_of e
  no_octet false o emergency e = ap octet_of e

  -- ---- by what the rules say

  named_by : (r : Outcome) → ((m : ℕ) → told smf_of r ≡ Some m → Told c m) → Decided r → Choice r → (m : ℕ) → smf_of v.decision ≡ Some m → From m
  named_by (Settled d) l e h m q = widened m (l m (ap smf_of (sym e) ∙ q))
  named_by (Choose emergency) l e h m q = inr (inr (inr (inr (served opened (smf_of v.decision) emergency refl (e, h refl) m q))))

  unserved_by : (r : Outcome) → (told cause_of r ≡ Some 91 → ⊥) → Decided r → Choice r → cause_of v.decision ≡ Some 91 → (asks_directory r ≡ true) × (opened ≡ true) × NoneServes
  unserved_by (Settled d) l e h q = absurd (l (ap cause_of (sym e) ∙ q))
  unserved_by (Choose emergency) l e h q =
      let n = none_serves opened (smf_of v.decision) emergency refl (e, h refl) q in
      (refl, n.0, n.1)

  served_by : (r : Outcome) → Decided r → Choice r → (asks_directory r ≡ true) × (opened ≡ true) × NoneServes → cause_of v.decision ≡ Some 91
  served_by (Settled d) e h q = absurd (false≢true q.0)
  served_by (Choose emergency) e h q =
      goes_back opened (smf_of v.decision) emergency refl (e, h refl) q.1 q.2

  octet_by : (r : Outcome) → told octet_of r ≡ None → Decided r → octet_of v.decision ≡ None
  octet_by (Settled d) l e = ap octet_of e ∙ l
  octet_by (Choose emergency) l e = no_octet opened (smf_of v.decision) emergency e

  untyped_by : (r : Outcome) → may_establish r ≡ false → Decided r → establishes v.decision ≡ false
  untyped_by (Settled d) l e = ap establishes e ∙ l
  untyped_by (Choose emergency) l e = absurd (false≢true (sym l))

  -- a choice is used only where a directory has to choose
  chosen_alike : (r : Outcome) → decision r opened (smf_of v.decision) ≡ decision r opened (choice_of r v.decision)
  chosen_alike (Settled d) = refl
  chosen_alike (Choose emergency) = refl

  pub judged : v ≡ verdict c opened (smf_of v.decision) → Choice (ruling c).outcome → Judged c opened serves takes v
  judged e h =
      let l = ruled c in
      let r = (ruling c).outcome in
      let d : Decided r = ap (λ (w : Verdict). w.decision) e in
      let value : v ≡ verdict c opened (choice_of r v.decision) = e ∙ ap (λ x. record { used = used c.asked (standing c); decision = x; release = (ruling c).release }) (chosen_alike r) in
      let named = named_by r l.named d h in
      record {
        value = value;
        set = λ ys s. value ∙ alike c ys opened (choice_of r v.decision) s;
        rule = one_rule c;
        choice = h;
        named = named;
        unserved = (unserved_by r l.supported d h, served_by r d h);
        priority = λ p. octet_by r (l.priority p) d;
        untyped = λ q. untyped_by r (l.untyped q) d;
        kept = λ x q s. ap smf_of d ∙ ap (λ z. smf_of (decision z.outcome opened (smf_of v.decision))) (goes_on c x q s);
        released = λ m q. l.released m (sym (ap (λ (w : Verdict). w.release) e) ∙ q);
        bounded = λ n b. put_fits n c serves b v (ap (λ (w : Verdict). w.used) e) (λ m q. smf_above n c serves b opened v.used m (named m q));
      }
