-- What verdicts keep to, in the words of receiving.
use Rattle.std.proofs.Common.{◌≡◌, ℕ, true, false, List, is_some, Some, None, Option, refl, ap}
use Rattle.accounts.specs.Receives.{Core, Received, case_on, verdict_on}
use Rattle.nas.specs.Uplinks.{Message}
use Rattle.stores.specs.declared.context.Context.{Context}
use Rattle.stores.specs.Contexts.{lookup}
use Rattle.verdicts.specs.declared.decision.Decision.{Decision}
use Rattle.verdicts.specs.declared.decision.Decision.TheVariants.{Forward, Establish, Return}
use Rattle.verdicts.specs.declared.ruling.Ruling.{Ruling}
use Rattle.verdicts.specs.declared.verdict.Verdict.{Verdict}
use Rattle.verdicts.specs.Rulings.{asks_directory}
use Rattle.verdicts.specs.Rules.{ruling}
use Rattle.verdicts.specs.Verdicts.{smf_of, establishes, established_by, context_of}
use Rattle.verdicts.proofs.Alike.{alike, ruling_alike}
use Rattle.verdicts.proofs.Replaced as cases

-- ---- contexts count only by what each session of each UE looks up to

pub verdict_alike : (core : Core) (xs ys : List Context) (r : Received) (chosen : Option ℕ) (x : Message) → ((u k : ℕ) → lookup ys u k ≡ lookup xs u k) → verdict_on core xs r chosen x ≡ verdict_on core ys r chosen x
verdict_alike core xs ys r chosen x h = alike (case_on core xs r x) ys r.is_open chosen h

pub asks_alike : (core : Core) (xs ys : List Context) (r : Received) (x : Message) → ((u k : ℕ) → lookup ys u k ≡ lookup xs u k) → asks_directory (ruling (case_on core xs r x)).outcome ≡ asks_directory (ruling (case_on core ys r x)).outcome
asks_alike core xs ys r x h = ap (λ (q : Ruling). asks_directory q.outcome) (ruling_alike (case_on core xs r x) ys h)

-- ---- the context that is established

-- a context that is replaced is released
pub replaced : (core : Core) (xs : List Context) (r : Received) (chosen : Option ℕ) (x : Message) → establishes (verdict_on core xs r chosen x).decision ≡ true → is_some (lookup xs r.ue.number x.session) ≡ true → is_some (verdict_on core xs r chosen x).release ≡ true
replaced core xs r chosen x = cases.replaced (case_on core xs r x) r.is_open chosen

-- what a verdict says of the context that it establishes
pub of_pair : (v : Verdict) (u k : ℕ) (c : Context) → context_of v u k ≡ Some c → (c.ue ≡ u) × (c.session ≡ k) × (smf_of v.decision ≡ Some c.smf) × (establishes v.decision ≡ true)
of_pair v u k c = go v.decision
  where
    go : (d : Decision) → established_by d v.used u k ≡ Some c → (c.ue ≡ u) × (c.session ≡ k) × (smf_of d ≡ Some c.smf) × (establishes d ≡ true)
    go (Forward m) e = absurd (cc)
    go (Establish m emergency) e = (cc, cc, cc, refl)
    go (Return cause) e = absurd (cc)

-- where it establishes none, its decision says so
pub not_established : (v : Verdict) (u k : ℕ) → context_of v u k ≡ None → establishes v.decision ≡ false
not_established v u k = go v.decision
  where
    go : (d : Decision) → established_by d v.used u k ≡ None → establishes d ≡ false
    go (Forward m) e = refl
    go (Establish m emergency) e = absurd (cc)
    go (Return cause) e = refl
