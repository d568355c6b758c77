use Rattle.std.proofs.Common.{vec_items, rules, tests}
use Rattle.std.proofs.lemmas.Iterator.{YieldsList-from_slice, YieldsList-from_map_by}
use Rattle.std.proofs.lemmas.Iterator.Consumers.{map_from_collect, YieldsList-at}
use Rattle.hall.proofs.hall.lend.Goals as goal

pub returns : goal.returns
returns c =
    map_from_collect c.collect.result c.collect.ensures.ran
    (YieldsList-from_map_by _ (λ n. n.now) vec_items (YieldsList-at c.map.ensures.source (YieldsList-from_slice c.args.names.now cc)) c.map.ensures.closure (λ x r q k. search (rules, tests)))
