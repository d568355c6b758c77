-- Configurations: which are in bounds, and the SMF of emergency sessions.
use Rattle.std.specs.Prelude.{ℕ, Bool, cond, ◌&&◌, Some, None, Option, nat_lt}
use Rattle.records.specs.declared.configuration.Configuration.{Configuration}
use Rattle.records.specs.Records.{in_book}

-- the DNNs are those of a book of n names
abbrev pub configuration_fits : ℕ → Configuration → Bool
configuration_fits n c = in_book n c.default.dnn && in_book n c.emergency.dnn

-- the static SMF of emergency sessions; 0 is none
abbrev pub emergency_smf : Configuration → Option ℕ
emergency_smf c = cond (nat_lt 0 c.static_emergency_smf) (Some c.static_emergency_smf) None
