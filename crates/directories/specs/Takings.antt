-- What the list directory answers, by its lines.
use Rattle.std.specs.Prelude.{ℕ, List, Ok, Err, Result}
use Rattle.directories.specs.declared.no_smf.NoSmf.{NoSmf}
use Rattle.directories.specs.declared.no_smf.NoSmf.TheVariants.{Closed, NoneServes}
use Rattle.directories.specs.declared.service_line.ServiceLine.{ServiceLine}
use Rattle.directories.specs.Lines.{NoneFor, FirstSmf}

-- it is never closed
abbrev pub TakenFirst : List ServiceLine → ℕ → ℕ → Result ℕ NoSmf → Type 0
TakenFirst lines s n (Err Closed) = ⊥
TakenFirst lines s n (Err NoneServes) = NoneFor lines s n
TakenFirst lines s n (Ok m) = FirstSmf lines s n m
