use Rattle.std.proofs.Common.{◌≡◌, MatchOption, rules}
use Rattle.grid.specs.Grids.{others_in}
use Rattle.grid.proofs.Tells.{count_told}
use Rattle.grid.proofs.grid_store.GridStoreStore.count_others.Goals as goal

pub returns : goal.returns
returns c =
    let k = c.args.session in
    let h : MatchOption c.row_of.result (c.map_or.result ≡ 0) (λ x. c.map_or.result ≡ others_in x.now k.id) = search rules in
    count_told c.args.self.now.rows k.ue k.id c.args.self.now.apart c.map_or.result c.row_of.result c.row_of.ensures h
