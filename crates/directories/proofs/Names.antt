-- Who is named, of any directory.
use Rattle.std.proofs.Common.{◌≡◌, ℕ, zero, suc, ◌<◌, Bool, true, false, Ok, Err, Result, sym, ◌∙◌, arith}
use Rattle.std.proofs.lemmas.Bool.{false≢true}
use Rattle.codes.specs.declared.slice_dnn.SliceDnn.{SliceDnn}
use Rattle.directories.specs.declared.no_smf.NoSmf.{NoSmf}
use Rattle.directories.specs.declared.no_smf.NoSmf.TheVariants.{Closed, NoneServes}
use Rattle.directories.specs.Choices.{ChosenFor, Named}
use Rattle.directories.specs.Meanings.{Lawful}

positive : (test : ℕ → Bool) (n : ℕ) → test 0 ≡ false → test n ≡ true → 0 < n
positive test zero f t = absurd (false≢true (sym f ∙ t))
positive test (suc n) f t = omega arith

-- a lawful directory names an SMF only for a DNN that has a number, and by an ID above 0
pub served_named : (serves takes : ℕ → ℕ → ℕ → Bool) → Lawful serves takes → (s n m : ℕ) → serves s n m ≡ true → (0 < n) × (0 < m)
served_named serves takes law s n m t = (positive (λ k. serves s k m) n (law.numbered s m) t, positive (serves s n) m (law.identified s n) t)

pub named_from : (serves takes : ℕ → ℕ → ℕ → Bool) → Lawful serves takes → (w : SliceDnn) (is_open : Bool) (r : Result ℕ NoSmf) → ChosenFor is_open serves takes w r → Named w r
named_from serves takes law w is_open (Err Closed) c = tt
named_from serves takes law w is_open (Err NoneServes) c = tt
named_from serves takes law w is_open (Ok m) c = served_named serves takes law w.slice w.dnn m c.1
