use Rattle.std.proofs.Common.{map, vec_items, ap, ◌∙◌, arith}
use Rattle.scenario.specs.Words.{text}
use Rattle.scenario.proofs.Cuts.{moved, go_on, cut, pass, cut_last, pass_last, one_found}
use Rattle.scenario.proofs.words.words_between.Goals as goal
use Rattle.scenario.proofs.words.words_between.Goals.{then-octet-eq-SPACE, then-start-i+in_ok-push, else-start-i, else-octet-eq-SPACE, then-start-line+in_ok-push-2, else-start-line}

pub loop-i-preserved : goal.loop-i-preserved
loop-i-preserved c =
    let line = c.args.line.now in
    let inv = c.loop-i.invariant in
    let lt = c.loop-i-test.true in
    elim c.if-octet-eq-SPACE.branch [
      | then-octet-eq-SPACE w ↦
          elim w.if-start-i.branch [
            | then-start-i+in_ok-push w' ↦
                moved line _ (ap (λ v. map text (vec_items v)) (w.found-is ∙ w'.found-is) ∙ one_found (vec_items c.loop-i.found) _ w'.in_ok-push.ensures.items) w.start-is
                (cut line _ _ _ inv lt w.if-octet-eq-SPACE.true w'.if-start-i.true)
            | else-start-i w' ↦
                moved line _ (ap (λ v. map text (vec_items v)) (w.found-is ∙ w'.found-is)) w.start-is
                (pass line _ _ _ inv lt w.if-octet-eq-SPACE.true w'.if-start-i.false)
          ]
      | else-octet-eq-SPACE w ↦
          moved line _ (ap (λ v. map text (vec_items v)) w.found-is) w.start-is (go_on line _ _ _ inv lt w.if-octet-eq-SPACE.false)
    ]

pub returns : goal.returns
returns c =
    let line = c.args.line.now in
    let inv = c.loop-i.invariant in
    elim c.if-start-line.branch [
      | then-start-line+in_ok-push-2 w ↦
          ap (λ v. map text (vec_items v)) w.found-is ∙ one_found (vec_items c.loop-i.found) _ w.in_ok-push-2.ensures.items
          ∙ cut_last line _ _ _ inv (omega arith) w.if-start-line.true
      | else-start-line w ↦
          ap (λ v. map text (vec_items v)) w.found-is ∙ pass_last line _ _ _ inv (omega arith) w.if-start-line.false
    ]
