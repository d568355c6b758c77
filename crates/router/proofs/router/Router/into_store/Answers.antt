use Rattle.std.proofs.Common.{ap, ◌∙◌}
use Rattle.runs.proofs.Whole.{law}
use Rattle.stores.specs.Contexts.{lookup}
use Rattle.router.proofs.router.Router.into_store.Goals as goal

pub returns-clause-account : goal.returns-clause-account
returns-clause-account g c =
    λ o p es run u k. ap (λ s. lookup (g.S.Store.contexts s) u k) c.close.ensures ∙ (law o es _ run).agrees.contexts u k
