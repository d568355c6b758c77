-- What the pieces of a printed line make together.
use Rattle.std.proofs.Common.{◌≡◌, ℕ, List, [], Some, None, codes, decimal, Option, unwrap_or, refl, ap, ◌∙◌, Bor}
use Rattle.std.specs.Option.{option_map}
use Rattle.std.specs.Fmt.{option_append}
use Rattle.nas.specs.Uplinks.{Message}
use Rattle.nas.specs.Views.{octets}
use Rattle.printing.specs.declared.slice.Slice.{Slice}
use Rattle.printing.specs.Absent.{shown_or_dash}
use Rattle.printing.specs.Octets.{octets_text}
use Rattle.printing.specs.Slice.{slice_octets}
use Rattle.playing.specs.Lines.{or_dash, message_line}

-- a value that may be absent, as it is shown
pub dashed : {X Y : Type 0} (text : Y → List ℕ) (of : X → Y) (o : Option X) (p : Option Y) → option_map of o ≡ p → shown_or_dash (λ x. Some (text (of x))) o ≡ Some (or_dash text p)
dashed text of None p e = ap (λ q. Some (or_dash text q)) e
dashed text of (Some x) p e = ap (λ q. Some (or_dash text q)) e

pub mapped_same : {X : Type 0} (o : Option X) → option_map (λ x. x) o ≡ o
mapped_same None = refl
mapped_same (Some x) = refl

lent_or_none : (name : Option (Bor (List ℕ))) (none : Bor (List ℕ)) → none.now ≡ [] → (unwrap_or name none).now ≡ unwrap_or (option_map octets name) []
lent_or_none None none e = e
lent_or_none (Some x) none e = refl

pub dnn_shown : (name : Option (Bor (List ℕ))) (none lent : Bor (List ℕ)) → none.now ≡ [] → lent ≡ unwrap_or name none → lent.now ≡ unwrap_or (option_map octets name) []
dnn_shown name none lent e is = ap octets is ∙ lent_or_none name none e

pub message_shown : (m : Message) (request : Option ℕ) (slice : Option Slice) (dnn : List ℕ) → request ≡ m.request → option_map (λ s. s.0) slice ≡ m.slice → dnn ≡ unwrap_or m.dnn [] → option_append (Some (codes "read payload ")) (option_append (Some (octets_text m.payload)) (option_append (Some (codes " session ")) (option_append (Some (decimal m.session)) (option_append (Some (codes " old ")) (option_append (shown_or_dash (λ n. Some (decimal n)) m.old) (option_append (Some (codes " request ")) (option_append (shown_or_dash (λ n. Some (decimal n)) request) (option_append (Some (codes " slice ")) (option_append (shown_or_dash (λ s. Some (octets_text (slice_octets s.0))) slice) (option_append (Some (codes " dnn ")) (Some (octets_text dnn)))))))))))) ≡ Some (message_line m)
message_shown m request slice dnn same-request same-slice same-dnn =
    let o = dashed decimal (λ n. n) m.old m.old (mapped_same m.old) in
    let r = dashed decimal (λ n. n) request m.request (mapped_same request ∙ same-request) in
    let s = dashed (λ n. octets_text (slice_octets n)) (λ x. x.0) slice m.slice same-slice in
    (λ i. option_append (Some (codes "read payload ")) (option_append (Some (octets_text m.payload)) (option_append (Some (codes " session ")) (option_append (Some (decimal m.session)) (option_append (Some (codes " old ")) (option_append (o i) (option_append (Some (codes " request ")) (option_append (r i) (option_append (Some (codes " slice ")) (option_append (s i) (option_append (Some (codes " dnn ")) (Some (octets_text (same-dnn i))))))))))))))
