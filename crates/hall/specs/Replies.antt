-- What is printed of what the router answers.
use Rattle.std.specs.Prelude.{◌≡◌, ℕ, Bool, List, ◌++◌, cond, Some, None, codes, decimal, Option, vec_items}
use Rattle.std.specs.Option.{option_map}
use Rattle.codes.specs.Causes.{cause_number}
use Rattle.codes.specs.RequestTypes.{request_number}
use Rattle.hosts.specs.declared.reply.Reply.{Reply}
use Rattle.playing.specs.Lines.{or_dash, error_line}
use Rattle.printing.specs.Octets.{octets_text}
use Rattle.printing.specs.Slice.{slice_octets}
use Rattle.stores.specs.declared.context.Context.{Context}
use Rattle.verdicts.specs.declared.decision.Decision.{Decision}
use Rattle.verdicts.specs.declared.decision.Decision.TheVariants.{Forward, Establish, Return}
use Rattle.hall.specs.declared.ue_note.UeNote.{UeNote}
use Rattle.hall.specs.declared.ue_note.UeNote.TheVariants as notes
use Rattle.hall.specs.declared.verb.Verb.{Verb}
use Rattle.hall.specs.declared.verb.Verb.TheVariants as verbs
use Rattle.hall.specs.Calls.{Call, receive, payload, taken, failed, park, pick, released, find}
use Rattle.hall.specs.Ends.{Outcome, Accepted, Refused, Misplaced}
use Rattle.hall.specs.Outcomes.{done_line}

-- the verbs of the commands

abbrev pub note_verb : UeNote → Verb
note_verb (notes.Begin ue limit marks) = verbs.Ue
note_verb (notes.Subscribe ue line) = verbs.Subscribe
note_verb (notes.Know ue line) = verbs.Know

abbrev pub call_verb : Call → Verb
call_verb (receive ue message lengths) = verbs.Receive
call_verb (payload n pool) = verbs.Payload
call_verb (taken n) = verbs.Taken
call_verb (failed n lengths) = verbs.Failed
call_verb (park n) = verbs.Park
call_verb (pick n) = verbs.Pick
call_verb (released p) = verbs.Released
call_verb (find p) = verbs.Find

-- ---- what accepted calls print

abbrev pub slice_text : ℕ → List ℕ
slice_text s = octets_text (slice_octets s)

-- what is asked for and what it goes by
abbrev pub used_text : Reply → List ℕ
used_text r =
    codes "old " ++ (or_dash decimal r.old_session
    ++ (codes " request " ++ (or_dash decimal (option_map request_number r.request_type)
    ++ (codes " slice " ++ (slice_text r.verdict.used.slice
    ++ (codes " dnn " ++ (decimal r.verdict.used.dnn
    ++ (codes " release " ++ or_dash decimal r.verdict.release))))))))

abbrev pub forwarded_text : Reply → ℕ → List ℕ
forwarded_text r smf =
    codes "receive forwarded number " ++ (decimal r.number ++ (codes " smf " ++ (decimal smf ++ (codes " " ++ used_text r))))

abbrev pub returned_text : Reply → ℕ → List ℕ
returned_text r cause =
    codes "receive returned number " ++ (decimal r.number
    ++ (codes " cause " ++ (decimal cause
    ++ (codes " " ++ (used_text r ++ (codes " octets " ++ octets_text (vec_items r.returned)))))))

abbrev pub decided_text : Reply → Decision → List ℕ
decided_text r (Forward smf) = forwarded_text r smf
decided_text r (Establish smf emergency) = forwarded_text r smf
decided_text r (Return cause) = returned_text r (cause_number cause)

abbrev pub reply_text : Reply → List ℕ
reply_text r = decided_text r r.verdict.decision

abbrev pub kind_text : Bool → List ℕ
kind_text emergency = cond emergency (codes "emergency") (codes "normal")

abbrev pub context_text : Option Context → List ℕ
context_text None = codes "find none"
context_text (Some c) =
    codes "find smf " ++ (decimal c.smf ++ (codes " slice " ++ (slice_text c.slice ++ (codes " dnn " ++ (decimal c.dnn ++ (codes " " ++ kind_text c.emergency))))))

-- the line s of an accepted call
abbrev pub Replies : Call → List ℕ → Type 0
Replies (receive ue message lengths) s = (r : Reply) × (s ≡ reply_text r)
Replies (payload n pool) s = (xs : List ℕ) × (s ≡ codes "payload " ++ octets_text xs)
Replies (taken n) s = s ≡ codes "taken"
Replies (failed n lengths) s = (xs : List ℕ) × (s ≡ codes "failed octets " ++ octets_text xs)
Replies (park n) s = s ≡ codes "park"
Replies (pick n) s = s ≡ codes "pick"
Replies (released p) s = s ≡ codes "released"
Replies (find p) s = (o : Option Context) × (s ≡ context_text o)

-- the line s of a call that came to this
abbrev pub CallLine : ℕ → Call → Outcome → List ℕ → Type 0
CallLine number c Accepted s = Replies c s
CallLine number c (Refused r) s = s ≡ done_line number (call_verb c) (Refused r)
CallLine number c Misplaced s = s ≡ error_line number
