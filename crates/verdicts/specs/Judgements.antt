-- Verdicts with any directory, by its ghost members: what holds of them, and what becomes of the directory.
use Rattle.std.specs.Prelude.{ℕ, Bool, Result}
use Rattle.directories.specs.declared.directory.Directory.{Ghosts}
use Rattle.directories.specs.declared.no_smf.NoSmf.{NoSmf}
use Rattle.directories.specs.Consultations.{Consulted}
use Rattle.verdicts.specs.declared.decision.Decision.{Decision}
use Rattle.verdicts.specs.declared.verdict.Verdict.{Verdict}
use Rattle.verdicts.specs.Cases.{Case}
use Rattle.verdicts.specs.Laws.{Judged, answer_of}
use Rattle.verdicts.specs.Verdicts.{smf_of}

-- what the directory answered where it was asked, by the decision that it led to
abbrev pub directory_answer : {D : Type 0} → Ghosts D → D → Decision → Result ℕ NoSmf
directory_answer g directory d = answer_of (g.opened directory) (smf_of d)

-- all that holds of the verdict v on a case, with this directory
abbrev pub JudgedBy : {D : Type 0} → Ghosts D → Case → D → Verdict → Type 0
JudgedBy g c directory v = Judged c (g.opened directory) (g.serves directory) (g.takes directory) v

-- what becomes of the directory, which is asked or not, by the verdict v
abbrev pub ConsultedFor : {D : Type 0} → Ghosts D → Bool → Verdict → D → D → Type 0
ConsultedFor g asked v before after = Consulted g asked v.used (directory_answer g before v.decision) before after
