-- The choice of the list directory, by what is the first line.
use Rattle.std.proofs.Common.{ℕ, true, List, Ok, Err, Result, refl}
use Rattle.std.specs.List.{AllPass}
use Rattle.codes.specs.declared.slice_dnn.SliceDnn.{SliceDnn}
use Rattle.std.proofs.lemmas.Bool.{and_left}
use Rattle.std.proofs.lemmas.List.Folds.{list_any_none}
use Rattle.directories.specs.declared.no_smf.NoSmf.{NoSmf}
use Rattle.directories.specs.declared.no_smf.NoSmf.TheVariants.{Closed, NoneServes}
use Rattle.directories.specs.declared.service_line.ServiceLine.{ServiceLine}
use Rattle.directories.specs.Choices.{Chosen, Named}
use Rattle.directories.specs.LineLaws.{first_among, first_taken, lines_lawful}
use Rattle.directories.specs.Lines.{good_line, line_serves, lines_serve, takes_first}
use Rattle.directories.proofs.Names.{named_from}
use Rattle.directories.specs.Takings.{TakenFirst}

pub first_chosen : (lines : List ServiceLine) (s n : ℕ) (r : Result ℕ NoSmf) → TakenFirst lines s n r → Chosen true (lines_serve lines s n) (takes_first lines s n) r
first_chosen lines s n (Err Closed) f = absurd f
first_chosen lines s n (Err NoneServes) f = (refl, λ m. list_any_none (λ l. line_serves l s n m) lines (λ k d h. and_left _ _ (f k d h)))
first_chosen lines s n (Ok m) f =
    let taken = first_taken lines s n m f.0 f.1 f.2 in
    (refl, first_among lines s n m taken, taken)

pub first_named : (lines : List ServiceLine) (w : SliceDnn) (r : Result ℕ NoSmf) → AllPass good_line lines → TakenFirst lines w.slice w.dnn r → Named w r
first_named lines w r good f = named_from (lines_serve lines) (takes_first lines) (lines_lawful lines good) w true r (first_chosen lines w.slice w.dnn r f)
