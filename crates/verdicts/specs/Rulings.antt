-- Rulings: what the rules say before any directory is asked.
use Rattle.std.specs.Prelude.{Bool, true, false, None}
use Rattle.verdicts.specs.declared.decision.Decision.{Decision}
use Rattle.verdicts.specs.declared.outcome.Outcome.{Outcome}
use Rattle.verdicts.specs.declared.outcome.Outcome.TheVariants.{Settled, Choose}
use Rattle.verdicts.specs.declared.ruling.Ruling.{Ruling}

-- nothing is to be released
abbrev pub only : Outcome → Ruling
only outcome = record { outcome = outcome; release = None }

abbrev pub settled : Decision → Ruling
settled d = only (Settled d)

-- a directory has to choose
abbrev pub asks_directory : Outcome → Bool
asks_directory (Settled d) = false
asks_directory (Choose emergency) = true
