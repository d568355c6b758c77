-- What a row of a control table has.
use Rattle.std.specs.Prelude.{◌≡◌, ℕ, Some, None, Option, MatchOption}
use Rattle.control.specs.declared.control_key.ControlKey.{ControlKey}
use Rattle.control.specs.declared.control_line.ControlLine.{ControlLine}

-- the back-off octet of a line
abbrev pub octet_of : Option ControlLine → Option ℕ
octet_of None = None
octet_of (Some l) = Some l.back_off

-- the line of key k, with the back-off octet b
abbrev pub Holds : ControlKey → ℕ → Option ControlLine → Type 0
Holds k b o = MatchOption o ⊥ (λ l. (l.key ≡ k) × (l.back_off ≡ b))
