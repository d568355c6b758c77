use Rattle.names.proofs.Naming.{follows_from_lent, lent_from_follows}
use Rattle.names.proofs.book.follows_earlier.Goals as goal

pub returns : goal.returns
returns c = (
  λ e. follows_from_lent c.args.names.now c.args.place _ c.requires (c.follows.ensures.0 e),
  λ f. c.follows.ensures.1 (lent_from_follows c.args.names.now c.args.place _ c.requires f),
)
