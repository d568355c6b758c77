use Rattle.std.proofs.Common.{rules, ◌≡◌, sym, subst, refl}
use Rattle.std.specs.Option.{option_map}
use Rattle.std.specs.Fmt.{DisplaysOnOk, WritesOnOk}
use Rattle.codes.specs.RequestTypes.{request_number}
use Rattle.nas.specs.Views.{decoded, answer}
use Rattle.playing.specs.Lines.{read_line}
use Rattle.playing.proofs.Shown.{dnn_shown, message_shown}
use Rattle.playing.proofs.read.ReadReplyDisplay.fmt.Goals as goal

pub returns-in-Ok-clause-writes : goal.returns-in-Ok-clause-writes
returns-in-Ok-clause-writes g c =
    let u = c.in-Ok.uplink in
    let request : c.map.result ≡ option_map request_number u.request_type = search rules in
    let slice : option_map (λ s. s.0) c.map-in-Ok.result ≡ u.slice = search rules in
    let dnn = dnn_shown u.dnn _ c.unwrap_or.result refl c.unwrap_or.ensures in
    subst (λ a. WritesOnOk g.W.Write.write_str_gives c.args.f.now c.write.result (read_line (answer a)) c.write.new.self) (sym c.in-Ok.is)
    (subst (λ o. DisplaysOnOk g.W.Write.write_str_gives c.args.f.now c.write.result o c.write.new.self)
    (message_shown (decoded u) c.map.result c.map-in-Ok.result c.unwrap_or.result.now request slice dnn)
    c.write.ensures.writes)
