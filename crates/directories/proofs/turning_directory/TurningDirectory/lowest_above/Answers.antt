use Rattle.std.proofs.Common.{ltb, ◌&&◌, rules, tests, vec_items}
use Rattle.std.proofs.lemmas.Iterator.{YieldsList-from_slice, YieldsList-from_map}
use Rattle.std.proofs.lemmas.Iterator.Consumers.{YieldsList-at, YieldsList-from_filter, min_from_yields_List}
use Rattle.directories.specs.declared.served_set.ServedSet.{ServedSet}
use Rattle.directories.specs.Sets.{set_for}
use Rattle.directories.proofs.Lowests.{lowest_of}
use Rattle.directories.proofs.turning_directory.TurningDirectory.lowest_above.Goals as goal

pub returns : goal.returns
returns c =
    let sets = vec_items c.args.self.now.sets in
    let s = c.args.wanted.slice in
    let n = c.args.wanted.dnn in
    let bound = c.args.bound in
    lowest_of sets s n bound c.min.result
    (min_from_yields_List c.map.result c.min.result c.min.ensures.ran
    (YieldsList-from_map _ (λ (x : ServedSet). x.smf)
    (YieldsList-at c.map.ensures.source
    (YieldsList-from_filter _ (λ (x : ServedSet). ltb bound x.smf && set_for x s n) (YieldsList-from_slice sets cc) c.filter.ensures.closure (λ x b q k. search (rules, tests))))
    c.map.ensures.closure (λ x r q k. search rules)))
