-- The number of each request type.
use Rattle.std.specs.Prelude.{◌≡◌, ℕ, cond, ◌&&◌, Some, None, Option, Result, MatchResult, nat_lt}
use Rattle.codes.specs.declared.refusal.Refusal.{Refusal}
use Rattle.codes.specs.declared.refusal.Refusal.TheVariants.{UnknownRequest}
use Rattle.codes.specs.Refusals.{refusal_number}
use Rattle.codes.specs.declared.request_type.RequestType.{RequestType}
use Rattle.codes.specs.declared.request_type.RequestType.TheVariants.{Initial, Existing, InitialEmergency, ExistingEmergency, Modification}

abbrev pub request_number : RequestType → ℕ
request_number Initial = 1
request_number Existing = 2
request_number InitialEmergency = 3
request_number ExistingEmergency = 4
request_number Modification = 5

-- n, if it is a request type's number
abbrev pub request_in : ℕ → Option ℕ
request_in n = cond (nat_lt 0 n && nat_lt n 6) (Some n) None

-- r is the request type of number n, or the refusal that says that no request type has it
abbrev pub NumberedAs : ℕ → Result RequestType Refusal → Type 0
NumberedAs n r =
    MatchResult r (λ t. request_in n ≡ Some (request_number t)) (λ e. (request_in n ≡ None) × (refusal_number e ≡ refusal_number UnknownRequest))
