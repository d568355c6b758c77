-- Where all that is told and that stands is in bounds, so is the context that a verdict establishes.
use Rattle.std.proofs.Common.{rules, ◌≡◌, ℕ, zero, suc, ◌≤◌, Bool, true, false, cond, ◌&&◌, ◌||◌, ◌⊎◌, eqb, ltb, leb, List, [], ◌∷◌, length, Some, None, Option, unwrap_or, option_map, sym, refl, ap, ◌∙◌, subst, inl, inr}
use Rattle.std.specs.List.{find, list_any, list_all}
use Rattle.std.proofs.lemmas.Bool.{and_parts, and_from, eqb-true, false≢true}
use Rattle.codes.specs.declared.request_type.RequestType.TheVariants.{Initial}
use Rattle.codes.specs.declared.slice_dnn.SliceDnn.{SliceDnn}
use Rattle.codes.specs.Sessions.{session_fits}
use Rattle.records.specs.declared.known_line.KnownLine.{KnownLine}
use Rattle.records.specs.declared.subscription_line.SubscriptionLine.{SubscriptionLine}
use Rattle.records.specs.Firsts.{default_dnn}
use Rattle.records.specs.Records.{in_book, subscription_fits, known_fits}
use Rattle.stores.specs.declared.context.Context.{Context}
use Rattle.stores.specs.Contexts.{pair_fits, fits, lookup}
use Rattle.verdicts.specs.declared.decision.Decision.{Decision}
use Rattle.verdicts.specs.declared.decision.Decision.TheVariants.{Forward, Establish, Return}
use Rattle.verdicts.specs.declared.verdict.Verdict.{Verdict}
use Rattle.verdicts.specs.Cases.{Case, standing, requests, for_emergency}
use Rattle.verdicts.specs.Rules.{smf_in}
use Rattle.verdicts.specs.Used.{kept, first_of, slice_used, common_used, used}
use Rattle.verdicts.specs.Verdicts.{smf_of, established_by, context_of}
use Rattle.verdicts.specs.Laws.{InBounds, StandingSmf, KnownSmf, EmergencySmf, StaticSmf, ServingSmf}

-- what is found in a list of which all pass a test, passes it
found_passes : {X : Type 0} (p t : X → Bool) (xs : List X) (x : X) → list_all p xs ≡ true → find t xs ≡ Some x → p x ≡ true
found_passes p t [] x a f = search rules
found_passes p t (y ∷ ys) x a f = go (t y) f (found_passes p t ys x (and_parts (p y) (list_all p ys) a).1)
  where
    go : (b : Bool) → cond b (Some y) (find t ys) ≡ Some x → (find t ys ≡ Some x → p x ≡ true) → p x ≡ true
    go true q rest = ap (λ (o : Option _). p (unwrap_or o y)) (sym q) ∙ (and_parts (p y) (list_all p ys) a).0
    go false q rest = rest q

-- a known line's SMF has an ID above 0
named_above : (n m : ℕ) (ls : List KnownLine) → list_all (known_fits n) ls ≡ true → list_any (λ l. eqb l.smf m) ls ≡ true → ltb 0 m ≡ true
named_above n m [] a f = absurd (false≢true f)
named_above n m (l ∷ ls) a f =
    let p = and_parts (known_fits n l) (list_all (known_fits n) ls) a in
    go (eqb l.smf m) refl f p.0 (named_above n m ls p.1)
  where
    go : (b : Bool) → eqb l.smf m ≡ b → (b || list_any (λ k. eqb k.smf m) ls) ≡ true → known_fits n l ≡ true → (list_any (λ k. eqb k.smf m) ls ≡ true → ltb 0 m ≡ true) → ltb 0 m ≡ true
    go true e q k rest = subst (λ i. ltb 0 i ≡ true) (eqb-true l.smf m e) (and_parts (in_book n l.dnn) (ltb 0 l.smf) (and_parts (session_fits l.session) (in_book n l.dnn && ltb 0 l.smf) k).1).1
    go false e q k rest = rest q

-- the numbers of a book are 64 at most
in_octet : (n d : ℕ) → n ≤ 64 → in_book n d ≡ true → ltb d 65 ≡ true
in_octet n d h e = search rules

-- the first of what is there is below 65, if each is
first_below : (p q r : Option ℕ) (d : ℕ) → ((x : ℕ) → p ≡ Some x → ltb x 65 ≡ true) → ((x : ℕ) → q ≡ Some x → ltb x 65 ≡ true) → ((x : ℕ) → r ≡ Some x → ltb x 65 ≡ true) → ltb d 65 ≡ true → ltb (first_of p q r d) 65 ≡ true
first_below (Some x) q r d f g h e = f x refl
first_below None (Some x) r d f g h e = g x refl
first_below None None (Some x) d f g h e = h x refl
first_below None None None d f g h e = e

module _ (n : ℕ) (c : Case) (serves : ℕ → ℕ → ℕ → Bool) (b : InBounds n c serves) where
  -- the parts of a record that is in bounds
  abbrev Lines : Type 0
  Lines = (list_all (subscription_fits n) c.asked.ue.subscriptions ≡ true) × (list_all (known_fits n) c.asked.ue.known ≡ true)

  number_fits : ltb 0 c.asked.ue.number ≡ true
  number_fits = (and_parts _ _ b.record_in).0

  lines : Lines
  lines =
      let p = (and_parts (ltb 0 c.asked.ue.number) _ b.record_in).1 in
      let q = (and_parts (session_fits c.asked.ue.session_limit) _ p).1 in
      let r = (and_parts (leb (length c.asked.ue.subscriptions) 32) _ q).1 in
      let s = (and_parts (leb (length c.asked.ue.known) 15) _ r).1 in
      and_parts (list_all (subscription_fits n) c.asked.ue.subscriptions) (list_all (known_fits n) c.asked.ue.known) s

  -- ---- SMF IDs

  context_smf : (u k m : ℕ) → smf_in (lookup c.contexts u k) ≡ Some m → ltb 0 m ≡ true
  context_smf u k m e = go (lookup c.contexts u k) refl e
    where
      go : (o : Option Context) → lookup c.contexts u k ≡ o → smf_in o ≡ Some m → ltb 0 m ≡ true
      go None f q = search rules
      go (Some x) f q =
          subst (λ i. ltb 0 i ≡ true) (ap (λ (o : Option ℕ). unwrap_or o 0) q) (and_parts (ltb 0 x.smf) (ltb x.dnn 65) (and_parts (pair_fits x.ue x.session) (ltb 0 x.smf && ltb x.dnn 65) (b.contexts_in u k x f)).1).0

  static_smf : (m : ℕ) → StaticSmf c m → ltb 0 m ≡ true
  static_smf m e = go (ltb 0 c.asked.configuration.static_emergency_smf) refl e
    where
      go : (d : Bool) → ltb 0 c.asked.configuration.static_emergency_smf ≡ d → cond d (Some c.asked.configuration.static_emergency_smf) None ≡ Some m → ltb 0 m ≡ true
      go true f q = subst (λ i. ltb 0 i ≡ true) (ap (λ (o : Option ℕ). unwrap_or o 0) q) f
      go false f q = search rules

  serving_smf : (s d m : ℕ) → serves s d m ≡ true → ltb 0 m ≡ true
  serving_smf s d zero e = absurd (false≢true (sym (b.identified s d) ∙ e))
  serving_smf s d (suc m) e = search rules

  pub smf_above : (opened : Bool) (u : SliceDnn) (m : ℕ) → StandingSmf c m ⊎ (KnownSmf c m ⊎ (EmergencySmf c m ⊎ (StaticSmf c m ⊎ ServingSmf opened serves u m))) → ltb 0 m ≡ true
  smf_above opened u m (inl e) = context_smf c.asked.ue.number c.asked.session m e
  smf_above opened u m (inr (inl e)) = named_above n m c.asked.ue.known lines.1 e
  smf_above opened u m (inr (inr (inl e))) = context_smf c.asked.ue.number e.0 m e.2
  smf_above opened u m (inr (inr (inr (inl e)))) = static_smf m e
  smf_above opened u m (inr (inr (inr (inr e)))) = serving_smf u.slice u.dnn m e.1

  -- ---- DNN numbers

  named_below : (x : ℕ) → c.asked.dnn ≡ Some x → ltb x 65 ≡ true
  named_below x e = let h = b.dnn_in x e in let g = b.book_in in search rules

  held_below : (x : ℕ) → option_map (λ o. o.dnn) (kept c.asked (standing c)) ≡ Some x → ltb x 65 ≡ true
  held_below x e = go (requests Initial c.asked) (standing c) refl e
    where
      go : (i : Bool) (o : Option Context) → standing c ≡ o → option_map (λ y. y.dnn) (cond i None o) ≡ Some x → ltb x 65 ≡ true
      go true o f q = search rules
      go false None f q = search rules
      go false (Some y) f q =
          subst (λ i. ltb i 65 ≡ true) (ap (λ (o : Option ℕ). unwrap_or o 0) q) (and_parts (ltb 0 y.smf) (ltb y.dnn 65) (and_parts (pair_fits y.ue y.session) (ltb 0 y.smf && ltb y.dnn 65) (b.contexts_in c.asked.ue.number c.asked.session y f)).1).1

  line_below : (s x : ℕ) → default_dnn c.asked.ue s ≡ Some x → ltb x 65 ≡ true
  line_below s x e = go (find (λ l. l.default_dnn && eqb l.slice s) c.asked.ue.subscriptions) refl e
    where
      go : (o : Option SubscriptionLine) → find (λ l. l.default_dnn && eqb l.slice s) c.asked.ue.subscriptions ≡ o → option_map (λ l. l.dnn) o ≡ Some x → ltb x 65 ≡ true
      go None f q = search rules
      go (Some l) f q =
          subst (λ i. ltb i 65 ≡ true) (ap (λ (o : Option ℕ). unwrap_or o 0) q) (in_octet n l.dnn b.book_in (found_passes (subscription_fits n) (λ l. l.default_dnn && eqb l.slice s) c.asked.ue.subscriptions l lines.0 f))

  dnn_below : ltb (used c.asked (standing c)).dnn 65 ≡ true
  dnn_below = go (for_emergency c.asked)
    where
      core : (in_book n c.asked.configuration.default.dnn ≡ true) × (in_book n c.asked.configuration.emergency.dnn ≡ true)
      core = and_parts (in_book n c.asked.configuration.default.dnn) (in_book n c.asked.configuration.emergency.dnn) b.configuration_in

      go : (d : Bool) → ltb (cond d c.asked.configuration.emergency (common_used c.asked (kept c.asked (standing c)))).dnn 65 ≡ true
      go true = in_octet n c.asked.configuration.emergency.dnn b.book_in core.1
      go false = first_below c.asked.dnn (option_map (λ o. o.dnn) (kept c.asked (standing c))) (default_dnn c.asked.ue (slice_used c.asked (kept c.asked (standing c)))) c.asked.configuration.default.dnn named_below held_below (line_below (slice_used c.asked (kept c.asked (standing c)))) (in_octet n c.asked.configuration.default.dnn b.book_in core.0)

  -- ---- the context

  pub put_fits : (v : Verdict) → v.used ≡ used c.asked (standing c) → ((m : ℕ) → smf_of v.decision ≡ Some m → ltb 0 m ≡ true) → (x : Context) → context_of v c.asked.ue.number c.asked.session ≡ Some x → fits x ≡ true
  put_fits v e h x q = go v.decision refl q
    where
      go : (d : Decision) → v.decision ≡ d → established_by d v.used c.asked.ue.number c.asked.session ≡ Some x → fits x ≡ true
      go (Forward m) f z = search rules
      go (Return cause) f z = search rules
      go (Establish m emergency) f z =
          let below : ltb v.used.dnn 65 ≡ true = ap (λ (w : SliceDnn). ltb w.dnn 65) e ∙ dnn_below in
          let pair : pair_fits c.asked.ue.number c.asked.session ≡ true = and_from _ _ number_fits b.session_in in
          ap (λ (o : Option Context). fits (unwrap_or o x)) (sym z) ∙ and_from _ _ pair (and_from _ _ (h m (ap smf_of f)) below)
