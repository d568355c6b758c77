-- What becomes of any directory, by its ghost members.
use Rattle.std.specs.Prelude.{◌≡◌, ℕ, Bool, true, false, Result}
use Rattle.codes.specs.declared.slice_dnn.SliceDnn.{SliceDnn}
use Rattle.directories.specs.declared.directory.Directory.{Ghosts}
use Rattle.directories.specs.declared.no_smf.NoSmf.{NoSmf}
use Rattle.directories.specs.Choices.{ChosenFor, SameServing}

-- Where it is asked, this answer is one that it may give, and it is what that choice leaves; else it is as it was. Who serves and whether it
-- is open never changes.
pub record Consulted {D : Type 0} (g : Ghosts D) (asked : Bool) (wanted : SliceDnn) (answer : Result ℕ NoSmf) (before after : D) : Type 0 where
  pub choice : asked ≡ true → ChosenFor (g.opened before) (g.serves before) (g.takes before) wanted answer
  pub turn : asked ≡ true → g.turned before wanted.slice wanted.dnn answer after
  pub unasked : asked ≡ false → after ≡ before
  pub opening : g.opened after ≡ g.opened before
  pub serving : SameServing (g.serves before) (g.serves after)
