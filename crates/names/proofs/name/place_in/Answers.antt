use Rattle.std.proofs.Common.{◌∙◌, rules, sym}
use Rattle.std.proofs.lemmas.Iterator.{YieldsList-from_slice}
use Rattle.std.proofs.lemmas.Iterator.Search.{position_from_yields_List}
use borrow.Author.Tests.{tests}
use Rattle.names.specs.Names.{same_name}
use Rattle.names.proofs.Naming.{position-map, placed}
use Rattle.names.proofs.name.place_in.Goals as goal

pub returns : goal.returns
returns g c =
    let first = position_from_yields_List (λ n. same_name (g.N.AsSlice.items n) c.args.octets.now) _ _ c.position.result c.position.ensures.ran (YieldsList-from_slice c.args.names.now cc) (λ x b q k. search (rules, tests)) in
    placed _ _ c.position.result (first ∙ sym (position-map _ g.N.AsSlice.items c.args.names.now))
