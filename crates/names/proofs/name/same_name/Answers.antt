use Rattle.std.proofs.Common.{◌≡◌, ◌∙◌, rules, arith}
use Rattle.std.specs.List.{list_all, zip}
use Rattle.std.proofs.lemmas.Iterator.{YieldsList-from_slice, YieldsList-from_zip}
use Rattle.std.proofs.lemmas.Iterator.Search.{all_from_yields_List}
use Rattle.std.proofs.lemmas.Bool.Decides.{nat_tests}
use borrow.Author.Tests.{tests}
use Rattle.names.specs.Names.{same_octet}
use Rattle.names.proofs.Naming.{same, other_length, same_in_pairs}
use Rattle.names.proofs.name.same_name.Goals as goal

pub returns-then-a-b : goal.returns-then-a-b
returns-then-a-b c =
    let pairs : c.all.result ≡ list_all (λ p. same_octet p.0 p.1) (zip c.args.a.now c.args.b.now) =
    all_from_yields_List (λ p. same_octet p.0 p.1) c.all.new.self _ c.all.result c.all.ensures.ran (YieldsList-from_zip (YieldsList-from_slice c.args.a.now cc) (YieldsList-from_slice c.args.b.now cc)) (λ x b q k. search (rules, tests)) in
    same _ _ _ (pairs ∙ same_in_pairs _ _ c.if-a-b.true)

pub returns-else-a-b : goal.returns-else-a-b
returns-else-a-b c = same _ _ _ (grind (arith, nat_tests, other_length))
