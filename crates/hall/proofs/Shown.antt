-- What the pieces of a printed line make together.
use Rattle.std.proofs.Common.{◌≡◌, ℕ, Some, codes, decimal, Option, ◌∙◌}
use Rattle.std.specs.Option.{option_map}
use Rattle.std.specs.Fmt.{option_append}
use Rattle.codes.specs.RequestTypes.{request_number}
use Rattle.hosts.specs.declared.reply.Reply.{Reply}
use Rattle.playing.proofs.Shown.{dashed, mapped_same}
use Rattle.printing.specs.Absent.{shown_or_dash}
use Rattle.hall.specs.Replies.{slice_text, used_text}

pub used_shown : (r : Reply) (request : Option ℕ) → request ≡ option_map request_number r.request_type → option_append (Some (codes "old ")) (option_append (shown_or_dash (λ n. Some (decimal n)) r.old_session) (option_append (Some (codes " request ")) (option_append (shown_or_dash (λ n. Some (decimal n)) request) (option_append (Some (codes " slice ")) (option_append (Some (slice_text r.verdict.used.slice)) (option_append (Some (codes " dnn ")) (option_append (Some (decimal r.verdict.used.dnn)) (option_append (Some (codes " release ")) (shown_or_dash (λ n. Some (decimal n)) r.verdict.release))))))))) ≡ Some (used_text r)
used_shown r request same =
    let o = dashed decimal (λ n. n) r.old_session r.old_session (mapped_same r.old_session) in
    let q = dashed decimal (λ n. n) request (option_map request_number r.request_type) (mapped_same request ∙ same) in
    let s = dashed decimal (λ n. n) r.verdict.release r.verdict.release (mapped_same r.verdict.release) in
    (λ i. option_append (Some (codes "old ")) (option_append (o i) (option_append (Some (codes " request ")) (option_append (q i) (option_append (Some (codes " slice ")) (option_append (Some (slice_text r.verdict.used.slice)) (option_append (Some (codes " dnn ")) (option_append (Some (decimal r.verdict.used.dnn)) (option_append (Some (codes " release ")) (s i))))))))))
