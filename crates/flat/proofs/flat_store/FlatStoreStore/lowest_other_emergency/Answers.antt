use Rattle.std.proofs.Common.{◌≡◌, min, sym, ◌∙◌, rules, tests}
use Rattle.std.specs.List.{filter_map, reduce}
use Rattle.std.proofs.lemmas.Iterator.{YieldsList-from_slice}
use Rattle.std.proofs.lemmas.Iterator.Adapters.{option_map_id}
use Rattle.std.proofs.lemmas.Iterator.Consumers.{YieldsList-at, YieldsList-from_filter_map, min_from_yields_List}
use Rattle.stores.specs.Contexts.{emergency_at}
use Rattle.stores.proofs.Lowests.{lowest_is}
use Rattle.flat.specs.Flat.{held_in}
use Rattle.flat.specs.Held.{held_emergency}
use Rattle.flat.proofs.Tells.{lowest_told}
use Rattle.flat.proofs.flat_store.FlatStoreStore.lowest_other_emergency.Goals as goal

pub returns : goal.returns
returns c =
    let t = c.args.self.now.table in
    let k = c.args.session in
    let h : c.lowest.result ≡ reduce min (filter_map (λ x. held_emergency k.ue k.id x.held) t.rows.now) =
    sym (option_map_id c.lowest.result)
    ∙ min_from_yields_List {v = λ x. x} c.filter_map.result c.lowest.result c.lowest.ensures
    (YieldsList-from_filter_map _ (λ x. held_emergency k.ue k.id x.held) (YieldsList-at c.filter_map.ensures.source (YieldsList-from_slice t.rows.now (cc))) c.filter_map.ensures.closure (λ x r q e. search (rules, tests))) in
    let l = lowest_told t.rows.now k.ue k.id c.lowest.result t.apart h in
    record { value = lowest_is (emergency_at (held_in t.rows.now) k.ue k.id) c.lowest.result l; lowest = l }
