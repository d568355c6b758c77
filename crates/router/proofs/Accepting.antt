-- A receive that is accepted.
use Rattle.std.proofs.Common.{◌≡◌, Ok, Option, Result, ℕ, sym, ap, subst, ◌∙◌}
use Rattle.accounts.specs.Receives.{Received, Answer, received, answer_to}
use Rattle.nas.specs.Uplinks.{Message, then, read}
use Rattle.router.specs.Receiving.{choice_for}
use Rattle.runs.specs.Models.{Model, Token, state}
use Rattle.runs.specs.Calls.{Accepted, ReceiveDoes, Receives}
use Rattle.verdicts.specs.declared.verdict.Verdict.{Verdict}

pub accepts : (m n : Model) (r : Received) (v : Verdict) (t : Option Token) (a : Answer) (x : Message) → received m.core (state m) r ≡ Ok x → read r.octets ≡ Ok x → a ≡ answer_to m.core m.next m.contexts r (choice_for m r v (Ok x)) x → Accepted m r (choice_for m r v (Ok x)) t x n → Receives m r (choice_for m r v (read r.octets)) t (Ok a) n
accepts m n r v t a x admitted reads is accepted =
    let chosen = choice_for m r v (Ok x) in
    subst (λ (y : Result Message ℕ). Receives m r (choice_for m r v y) t (Ok a) n) (sym reads)
    (record {
      answer = ap Ok is ∙ ap (λ (y : Result Message ℕ). then y (λ z. Ok (answer_to m.core m.next m.contexts r chosen z))) (sym admitted);
      does = subst (λ (y : Result Message ℕ). ReceiveDoes m r chosen t y n) (sym admitted) accepted;
    })
