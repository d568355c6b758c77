use Rattle.std.proofs.Common.{◌∙◌, sym, refl, rules, length, arith}
use Rattle.std.proofs.lemmas.Bool.{eqb-false}
use Rattle.std.proofs.lemmas.Iterator.{cases_from_all, YieldsList-from_range}
use borrow.Author.Tests.{tests}
use Rattle.names.specs.Names.{FollowsEarlier}
use Rattle.names.specs.OwnNames.{lent_names}
use Rattle.names.proofs.Naming.{good_where_all, names_length}
use Rattle.names.proofs.book.good_names.Goals as goal

pub returns-then-names-le-MAX_NAMES : goal.returns-then-names-le-MAX_NAMES
returns-then-names-le-MAX_NAMES c =
    let names = lent_names c.args.names.now in
    good_where_all names (length c.args.names.now) c.all.result (sym (names_length (λ r. r.now) c.args.names.now))
    (omega (arith, eqb-false _ 0 (sym c.is_empty.ensures ∙ c.if-names-le-MAX_NAMES.true.0)))
    c.if-names-le-MAX_NAMES.true.1
    (cases_from_all c.all.new.self _ c.all.result (FollowsEarlier names) (λ i. FollowsEarlier names i → ⊥) c.all.ensures.ran (YieldsList-from_range 0 (length c.args.names.now) (length c.args.names.now) refl (omega arith)) (λ x q k. search (rules, tests)) (λ x q k. search (rules, tests)))
