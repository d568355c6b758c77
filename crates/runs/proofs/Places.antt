-- What a list of calls says of a context that was established in it.
use Rattle.std.proofs.Common.{◌≡◌, ℕ, false, ◌⊎◌, List, [], ◌∷◌, ◌++◌, Some, Ok, Option, sym, refl, ap, ◌∙◌, subst, inl, inr}
use Rattle.std.specs.List.{list_any}
use Rattle.std.proofs.lemmas.Bool.{or_parts, or_from}
use Rattle.accounts.specs.Receives.{Received, Answer}
use Rattle.nas.specs.Uplinks.{Message, read}
use Rattle.stores.specs.declared.context.Context.{Context}
use Rattle.verdicts.specs.Verdicts.{smf_of, context_of}
use Rattle.runs.specs.Entries.{Entry, receive}
use Rattle.runs.specs.Models.{Token}
use Rattle.runs.specs.Positions.{Established, ends}

-- under number n an accepted payload established c, and no later call ended that
abbrev pub By : List Entry → ℕ → Context → Type 0
By es n c = (e : Established es c) × (e.answer.number ≡ n)

-- this call accepts a payload under number n that establishes c
abbrev pub Now : Entry → ℕ → Context → Type 0
Now (receive r chosen ticket (Ok a)) n c =
    (x : Message) × (read r.octets ≡ Ok x) × (context_of a.verdict r.ue.number x.session ≡ Some c) × (a.number ≡ n)
Now e n c = ⊥

-- this call does not end it
abbrev pub Spares : Entry → ℕ → Context → Type 0
Spares e n c = ends n c.ue c.session e ≡ false

pub head_same : {X : Type 0} (x y : X) (xs ys : List X) → x ∷ xs ≡ y ∷ ys → x ≡ y
head_same x y xs ys e = cc

pub tail_same : {X : Type 0} (x y : X) (xs ys : List X) → x ∷ xs ≡ y ∷ ys → xs ≡ ys
tail_same x y xs ys e = cc

-- a list with something in it is not empty
pub none_apart : {X : Type 0} (xs ys : List X) (x : X) → [] ≡ xs ++ x ∷ ys → ⊥
none_apart [] ys x e = cc
none_apart (y ∷ xs) ys x e = cc

-- a context that the latest call establishes
pub by_now : (es : List Entry) (r : Received) (chosen : Option ℕ) (ticket : Option Token) (a : Answer) (x : Message) (c : Context) → read r.octets ≡ Ok x → context_of a.verdict r.ue.number x.session ≡ Some c → smf_of a.verdict.decision ≡ Some c.smf → By (receive r chosen ticket (Ok a) ∷ es) a.number c
by_now es r chosen ticket a x c reads establishes smf =
    (record { later = []; received = r; chosen = chosen; ticket = ticket; answer = a; message = x; earlier = es; whole = refl; reads = reads; establishes = establishes; smf = smf; stands = refl }, refl)

-- and one that stood, and that the latest call does not end
pub by_later : (e : Entry) (es : List Entry) (n : ℕ) (c : Context) → Spares e n c → By es n c → By (e ∷ es) n c
by_later e es n c s b =
    let d = b.0 in
    let spared : ends d.answer.number c.ue c.session e ≡ false = ap (λ (k : ℕ). ends k c.ue c.session e) b.1 ∙ s in (
      record {
        later = e ∷ d.later;
        received = d.received;
        chosen = d.chosen;
        ticket = d.ticket;
        answer = d.answer;
        message = d.message;
        earlier = d.earlier;
        whole = ap (λ (r : List Entry). e ∷ r) d.whole;
        reads = d.reads;
        establishes = d.establishes;
        smf = d.smf;
        stands = or_from _ _ spared d.stands;
      },
      b.1,
    )

-- there is no other
pub by_cases : (e : Entry) (es : List Entry) (n : ℕ) (c : Context) → By (e ∷ es) n c → Now e n c ⊎ (Spares e n c × By es n c)
by_cases e es n c b = go b.0.later b.0.whole b.0.stands
  where
    go : (later : List Entry) → e ∷ es ≡ later ++ receive b.0.received b.0.chosen b.0.ticket (Ok b.0.answer) ∷ b.0.earlier → list_any (ends b.0.answer.number c.ue c.session) later ≡ false → Now e n c ⊎ (Spares e n c × By es n c)
    go [] w s =
        inl (subst (λ (d : Entry). Now d n c) (sym (head_same e _ es _ w)) (b.0.message, b.0.reads, b.0.establishes, b.1))
    go (d ∷ ds) w s =
        let p = or_parts (ends b.0.answer.number c.ue c.session d) (list_any (ends b.0.answer.number c.ue c.session) ds) s in
        inr (
          (λ i. ends (sym b.1 i) c.ue c.session (head_same e d es _ w i)) ∙ p.0,
          (record { later = ds; received = b.0.received; chosen = b.0.chosen; ticket = b.0.ticket; answer = b.0.answer; message = b.0.message; earlier = b.0.earlier; whole = tail_same e d es _ w; reads = b.0.reads; establishes = b.0.establishes; smf = b.0.smf; stands = p.1 }, b.1),
        )

pub by_none : (n : ℕ) (c : Context) → By [] n c → ⊥
by_none n c b = none_apart b.0.later b.0.earlier _ b.0.whole
