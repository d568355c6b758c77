-- What the values of the code stand for: lists in place of references, a refusal by its number.
use Rattle.std.specs.Prelude.{ℕ, List, Ok, Err, Result}
use Rattle.std.specs.Borrow.{Bor}
use Rattle.std.specs.Option.{option_map}
use Rattle.codes.specs.declared.refusal.Refusal.{Refusal}
use Rattle.nas.specs.declared.uplink.Uplink.{Uplink}
use Rattle.nas.specs.declared.uplink.Parts as code
use Rattle.codes.specs.Refusals.{refusal_number}
use Rattle.codes.specs.RequestTypes.{request_number}
use Rattle.nas.specs.Uplinks.{Parts, Message}

abbrev pub octets : Bor (List ℕ) → List ℕ
octets r = r.now

abbrev pub parts : code.Parts → Parts
parts f = record { session = f.session; old = f.old_session; request = f.request; slice = f.slice; dnn = option_map octets f.dnn }

abbrev pub decoded : Uplink → Message
decoded u = record { payload = u.payload.now; session = u.session; old = u.old_session; request = option_map request_number u.request_type; slice = u.slice; dnn = option_map octets u.dnn }

-- what view shows of a value, or the refusal by its number
abbrev pub seen : {X Y : Type 0} → (X → Y) → Result X Refusal → Result Y ℕ
seen view (Ok x) = Ok (view x)
seen view (Err e) = Err (refusal_number e)

-- the message, or the refusal by its number
abbrev pub answer : Result Uplink Refusal → Result Message ℕ
answer (Ok u) = Ok (decoded u)
answer (Err e) = Err (refusal_number e)
