use Rattle.std.proofs.Common.{◌∙◌, ap, subst, rules, length-append}
use Rattle.std.specs.Iterator.Runs.{ItemsMapTo}
use Rattle.std.specs.Slice.Iter.{iter_rest}
use Rattle.std.proofs.lemmas.Result.{IfOk-weaker}
use borrow.Author.Tests.{tests}
use Rattle.names.specs.OwnNames.{own_names}
use Rattle.names.proofs.Naming.{copied}
use Rattle.names.proofs.book.copy_names.Goals as goal

pub returns : goal.returns
returns g c =
    IfOk-weaker c.try_collect.result _ _ (λ v run.
    let p = run.0 in
    let mapped = c.map.ensures.runs p p.seen run.1 in
    let q = mapped.0 in
    let lent = subst (λ l. ItemsMapTo q (λ y. y.now) l) (ap iter_rest mapped.1 ∙ c.iter.ensures.rest) (c.iter.ensures.runs q q.seen) in
    let made = run.3 (λ xs v x w a b. search (rules, length-append)) in
    let same = mapped.2.2 (λ x r f k. search (rules, tests)) in
    let long = lent.1 (mapped.2.0 ∙ run.2) in
    ap own_names made.1.0 ∙ copied g.N.AsSlice.items p q _ (λ x n k. search (rules, tests)) c.args.names.now made.0 made.2 (mapped.2.1 ∙ long) made.3 same lent.3) c.try_collect.ensures.runs
