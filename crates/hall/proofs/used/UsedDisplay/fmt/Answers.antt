use Rattle.std.proofs.Common.{rules, ◌≡◌, subst}
use Rattle.std.specs.Option.{option_map}
use Rattle.std.specs.Fmt.{DisplaysOnOk}
use Rattle.codes.specs.RequestTypes.{request_number}
use Rattle.hall.proofs.Shown.{used_shown}
use Rattle.hall.proofs.used.UsedDisplay.fmt.Goals as goal

pub returns-clause-writes : goal.returns-clause-writes
returns-clause-writes g c =
    let r = c.args.self.now.0.now in
    let request : c.map.result ≡ option_map request_number r.request_type = search rules in
    subst (λ o. DisplaysOnOk g.W.Write.write_str_gives c.args.f.now c.write.result o c.write.new.self)
    (used_shown r c.map.result request)
    c.write.ensures.writes
