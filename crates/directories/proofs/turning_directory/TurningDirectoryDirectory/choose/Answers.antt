use Rattle.std.proofs.Common.{rules, vec_items}
use Rattle.directories.proofs.Rounds.{named_by}
use Rattle.directories.proofs.turning_directory.TurningDirectoryDirectory.choose.Goals as goal

pub returns-clause-named : goal.returns-clause-named
returns-clause-named c =
    let d = c.args.self.now in
    named_by (vec_items d.sets) c.args.wanted.slice c.args.wanted.dnn d.last c.in_ok-smf.smf d.good (search rules)
