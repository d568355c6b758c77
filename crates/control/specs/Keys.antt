-- What control lines are about: their kinds by number, and which keys are the same.
use Rattle.std.specs.Prelude.{ℕ, Bool, false, cond, ◌&&◌, Some, None, Option, ◌==◌}
use Rattle.control.specs.declared.control_numbers.ControlNumbers.{ControlNumbers}
use Rattle.control.specs.declared.control_key.ControlKey.{ControlKey}
use Rattle.control.specs.declared.control_key.ControlKey.TheVariants.{Dnn, SliceAndDnn, Slice}

-- the key of this kind, with those of slice and DNN that it names
abbrev pub key_in : ℕ → ℕ → ℕ → Option ControlKey
key_in kind s n =
    cond (kind == 1) (Some (Dnn n)) (cond (kind == 2) (Some (SliceAndDnn s n)) (cond (kind == 3) (Some (Slice s)) None))

abbrev pub key_for : ControlNumbers → Option ControlKey
key_for n = key_in n.kind n.slice n.dnn

abbrev pub same_key : ControlKey → ControlKey → Bool
same_key (Dnn n) (Dnn m) = n == m
same_key (Dnn n) (SliceAndDnn t m) = false
same_key (Dnn n) (Slice t) = false
same_key (SliceAndDnn s n) (Dnn m) = false
same_key (SliceAndDnn s n) (SliceAndDnn t m) = s == t && n == m
same_key (SliceAndDnn s n) (Slice t) = false
same_key (Slice s) (Dnn m) = false
same_key (Slice s) (SliceAndDnn t m) = false
same_key (Slice s) (Slice t) = s == t
