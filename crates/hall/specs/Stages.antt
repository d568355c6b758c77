-- What becomes of a stage between two lines.
use Rattle.hall.specs.declared.stage.Stage.{Stage}
use Rattle.hall.specs.Halls.{Renewed}

-- the control table is the one that was wanted before, or else as it was
abbrev pub TableRenewed : Stage → Stage → Type 0
TableRenewed s t = Renewed s.hall.wanted_rows s.table t.table
