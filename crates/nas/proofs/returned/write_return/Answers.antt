use Rattle.std.proofs.Common.{◌≡◌, ◌/◌, ◌%◌, [], ◌∷◌, length, ap, rules}
use Rattle.nas.specs.Returns.{return_header, back_off_element}
use Rattle.nas.proofs.Fronts.{front_none, front_more, written}
use Rattle.nas.proofs.returned.write_return.Goals as goal

pub returns : goal.returns
returns c =
    let payload = c.args.payload.now in
    let size : c.to_be_bytes.result ≡ length payload / 256 ∷ length payload % 256 ∷ [] = search rules in
    let header = front_more return_header _ _ (front_none c.args.output.now) c.put.ensures.end c.put.ensures.after in
    let sized = front_more c.to_be_bytes.result _ _ header c.put-2.ensures.end c.put-2.ensures.after in
    let paid = front_more payload _ _ sized c.put-3.ensures.end c.put-3.ensures.after in
    let caused = front_more (0x12 ∷ c.args.session ∷ 0x58 ∷ c.from.result ∷ []) _ _ paid c.put-4.ensures.end c.put-4.ensures.after in
    let whole = front_more (back_off_element c.back_off.result) _ _ caused c.put_back_off.ensures.end c.put_back_off.ensures.after in
    written _ payload c.args.session c.args.cause _ _ _ _ _ _ size c.from.ensures (ap back_off_element c.back_off.ensures) whole (search rules) (search rules) (search rules) (search rules) (search rules)
