use Rattle.std.proofs.Common.{map, ap, ◌∙◌, subst}
use Rattle.scenario.specs.Words.{text}
use Rattle.playing.specs.Lines.{WordsOf}
use Rattle.hall.specs.Commands.{command_words}
use Rattle.hall.proofs.Lawful.{lawful}
use Rattle.hall.proofs.player.Player.answer.Goals as goal

pub returns-clause-answers : goal.returns-clause-answers
returns-clause-answers c =
    let w = subst (WordsOf c.args.line.now) c.in-Some.is c.in_ok-words.ensures in
    let said = c.in_ok-command.ensures ∙ ap (λ l. command_words (map text l)) c.as_slice.ensures.value ∙ ap command_words w.1 in
    lawful _ _ c.args.number c.args.line.now w.0 said c.in_ok-answer_line.ensures
