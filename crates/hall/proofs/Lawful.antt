-- Octets that are written behind `read` are read.
use Rattle.std.proofs.Common.{◌≡◌, ℕ, ◌<◌, Bool, true, false, List, ◌++◌, Some, None, codes, Option, sym, refl, ap, ◌∙◌, subst}
use Rattle.std.specs.Option.{option_map}
use Rattle.std.specs.List.{AllByRecursion}
use Rattle.std.proofs.lemmas.Bool.{true≢false}
use Rattle.printing.specs.Octets.{octets_text}
use Rattle.scenario.specs.Words.{words}
use Rattle.scenario.proofs.Pairs.{octets_back}
use Rattle.control.specs.declared.control_row.ControlRow.{ControlRow}
use Rattle.playing.specs.Lines.{silent}
use Rattle.playing.proofs.Reading.{words_read, read_loud}
use Rattle.hall.specs.declared.directory.HallDirectory.{HallDirectory}
use Rattle.hall.specs.Commands.{Command, read, command_words}
use Rattle.hall.specs.Lines.{PrintedIf, Answers}

-- octets behind `read` make a command, and are what it reads
octets_asked : (xs : List ℕ) → AllByRecursion (λ x. x < 256) xs → command_words (words (codes "read " ++ octets_text xs)) ≡ Some (read xs)
octets_asked xs h = ap command_words (words_read xs h) ∙ ap (option_map read) (octets_back xs h)

never : {X : Type 0} (b : Bool) → b ≡ true → b ≡ false → X
never b t f = absurd (true≢false (sym t ∙ f))

module _ (d : Option HallDirectory) (rows : List ControlRow) (number : ℕ) (line : List ℕ) where
  pub lawful_none : silent line ≡ true → Answers d rows number line None
  lawful_none quiet = record {
    quiet = λ e. refl;
    loud = λ e. never (silent line) quiet e;
    octets_read = λ xs h is. never (silent line) quiet (ap silent is ∙ read_loud xs h);
  }

  pub lawful : {s : List ℕ} {command : Option Command} → silent line ≡ false → command ≡ command_words (words line) → PrintedIf d rows number command s → Answers d rows number line (Some s)
  lawful {s} loud said p = record {
    quiet = λ e. never (silent line) e loud;
    loud = λ e. (s, refl, subst (λ o. PrintedIf d rows number o s) said p);
    octets_read = λ xs h is. ap Some (subst (λ o. PrintedIf d rows number o s) (said ∙ ap (λ l. command_words (words l)) is ∙ octets_asked xs h) p);
  }
