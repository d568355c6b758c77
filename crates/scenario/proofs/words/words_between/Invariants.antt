use Rattle.std.proofs.Common.{map, vec_items}
use Rattle.scenario.specs.Words.{text}
use Rattle.scenario.proofs.Cuts.{Sofar}
use Rattle.scenario.proofs.words.words_between.Given as goal

abbrev pub invariant-loop-i : goal.invariant-loop-i
invariant-loop-i l = Sofar l.line (map text (vec_items l.found)) l.start l.i
