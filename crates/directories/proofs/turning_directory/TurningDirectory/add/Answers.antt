use Rattle.std.proofs.Common.{rules, vec_items, arith}
use Rattle.std.proofs.lemmas.Grind.{common_steps}
use Rattle.directories.proofs.Joins.{joined_held}
use Rattle.directories.proofs.turning_directory.TurningDirectory.add.Goals as goal

pub returns-in-Some-clause-sets : goal.returns-in-Some-clause-sets
returns-in-Some-clause-sets c =
    let d = c.args.self.now in
    joined_held (vec_items d.sets) c.args.line c.in-Some.i c.add.new.self d.good (search rules) (search rules) (grind (arith, common_steps))
