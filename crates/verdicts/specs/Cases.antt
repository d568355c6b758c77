-- What a verdict is given on: what is asked, what is known of the UE and of the core, the contexts and the control lines.
use Rattle.std.specs.Prelude.{ℕ, Bool, ◌||◌, List, Some, None, Option, ◌==◌}
use Rattle.codes.specs.declared.request_type.RequestType.{RequestType}
use Rattle.codes.specs.RequestTypes.{request_number}
use Rattle.codes.specs.declared.request_type.RequestType.TheVariants.{InitialEmergency, ExistingEmergency}
use Rattle.control.specs.declared.control_key.ControlKey.{ControlKey}
use Rattle.control.specs.declared.control_row.ControlRow.{ControlRow}
use Rattle.control.specs.Lines.{back_off_of}
use Rattle.stores.specs.declared.context.Context.{Context}
use Rattle.stores.specs.Contexts.{lookup}
use Rattle.records.specs.declared.configuration.Configuration.{Configuration}
use Rattle.records.specs.Records.{Ue, plain}
use Rattle.verdicts.specs.declared.inquiry.Inquiry as code

-- what a UE asks for one of its sessions, with what the host tells of it
pub record Asked : Type 0 where
  pub ue : Ue
  pub configuration : Configuration
  pub session : ℕ
  pub request : Option RequestType
  -- what the message names, the DNN by its number
  pub slice : Option ℕ
  pub dnn : Option ℕ

abbrev pub asked : code.Inquiry → Asked
asked q = record { ue = plain q.record; configuration = q.configuration; session = q.session; request = q.request_type; slice = q.slice; dnn = q.dnn }

-- what is asked over these contexts, with the back-off octets of these control lines
pub record Case : Type 0 where
  pub asked : Asked
  pub contexts : List Context
  pub back_off : ControlKey → Option ℕ

abbrev pub case_of : code.Inquiry → List Context → (ControlKey → Option ℕ) → Case
case_of q xs b = record { asked = asked q; contexts = xs; back_off = b }

-- the same with the rows that have the control lines
abbrev pub posed : code.Inquiry → List Context → List ControlRow → Case
posed q xs rows = case_of q xs (back_off_of rows)

-- the same over other contexts
abbrev pub over : List Context → Case → Case
over ys c = record { asked = c.asked; contexts = ys; back_off = c.back_off }

-- the context of the session that is asked for
abbrev pub standing : Case → Option Context
standing c = lookup c.contexts c.asked.ue.number c.asked.session

-- ---- request types

-- the number of the request type, and 0 where there is none
abbrev pub request_code : Option RequestType → ℕ
request_code None = 0
request_code (Some t) = request_number t

-- the request is of this type
abbrev pub requests : RequestType → Asked → Bool
requests t a = request_code a.request == request_number t

-- it is for an emergency session
abbrev pub for_emergency : Asked → Bool
for_emergency a = requests InitialEmergency a || requests ExistingEmergency a
