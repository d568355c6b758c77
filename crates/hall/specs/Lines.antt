-- What a line of a scenario asks for, and what it prints.
use Rattle.std.specs.Prelude.{◌≡◌, ℕ, ◌<◌, true, false, List, ◌++◌, Some, None, codes, Option}
use Rattle.std.specs.List.{AllByRecursion}
use Rattle.nas.specs.Uplinks as uplinks
use Rattle.printing.specs.Octets.{octets_text}
use Rattle.scenario.specs.Words.{words}
use Rattle.playing.specs.Lines.{error_line, read_line, silent}
use Rattle.control.specs.declared.control_row.ControlRow.{ControlRow}
use Rattle.hall.specs.declared.directory.HallDirectory.{HallDirectory}
use Rattle.hall.specs.Ends.{Outcome}
use Rattle.hall.specs.declared.verb.Verb.TheVariants as verbs
use Rattle.hall.specs.Commands.{Command, read, change, open_router, note, call, command_words}
use Rattle.hall.specs.Effects.{OutcomeFor}
use Rattle.hall.specs.Outcomes.{outcome_line, done_line}
use Rattle.hall.specs.Replies.{note_verb, CallLine}

-- What a command of this line number prints, by the directory and the control rows that stand before it: what is read,
-- or the line of the outcome; of what goes to the UE records or the router, the line of some outcome.
abbrev pub Printed : Option HallDirectory → List ControlRow → ℕ → Command → List ℕ → Type 0
Printed d rows number (read octets) s = s ≡ read_line (uplinks.read octets)
Printed d rows number (change c) s = (o : Outcome) × OutcomeFor d rows c o × (s ≡ outcome_line number c o)
Printed d rows number (open_router asked) s = (o : Outcome) × (s ≡ done_line number verbs.Open o)
Printed d rows number (note n) s = (o : Outcome) × (s ≡ done_line number (note_verb n) o)
Printed d rows number (call c) s = (o : Outcome) × CallLine number c o s

-- the same, where the line may be no command
abbrev pub PrintedIf : Option HallDirectory → List ControlRow → ℕ → Option Command → List ℕ → Type 0
PrintedIf d rows number None s = s ≡ error_line number
PrintedIf d rows number (Some command) s = Printed d rows number command s

-- ---- what holds of every answer o to the line of this number

-- Octets written behind `read` are the octets that are read, whatever they are.
abbrev pub OctetsRead : List ℕ → Option (List ℕ) → Type 0
OctetsRead line o =
    (xs : List ℕ) → AllByRecursion (λ x. x < 256) xs → line ≡ codes "read " ++ octets_text xs → o ≡ Some (read_line (uplinks.read xs))

-- what every answer o to the line of this number is
pub record Answers (d : Option HallDirectory) (rows : List ControlRow) (number : ℕ) (line : List ℕ) (o : Option (List ℕ)) : Type 0 where
  pub quiet : silent line ≡ true → o ≡ None
  pub loud : silent line ≡ false → (s : List ℕ) × (o ≡ Some s) × PrintedIf d rows number (command_words (words line)) s
  pub octets_read : OctetsRead line o
