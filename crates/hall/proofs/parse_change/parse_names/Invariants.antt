use Rattle.std.proofs.Common.{map, vec_items}
use Rattle.hall.proofs.Named.{ReadSoFar}
use Rattle.hall.proofs.parse_change.parse_names.Given as goal

abbrev pub invariant-loop-word : goal.invariant-loop-word
invariant-loop-word l = ReadSoFar l.words (map vec_items (vec_items l.names)) l.word-index
