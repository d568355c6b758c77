-- A small message, octet by octet, and what it says.
use Rattle.std.specs.Prelude.{◌≡◌, ℕ, List, [], ◌∷◌, Some, None, Ok}
use Rattle.nas.specs.Uplinks.{read}

abbrev pub sample : List ℕ
sample =
    0x7E ∷ 0x00 ∷ 0x67 ∷ 0x01 ∷ 0x00 ∷ 0x04 ∷ 0x2E ∷ 0x01 ∷ 0x01 ∷ 0xC1 ∷ 0x12 ∷ 0x01 ∷ 0x81 ∷ []

abbrev pub SampleReads : Type 0
SampleReads =
    read sample ≡ Ok (record { payload = 0x2E ∷ 0x01 ∷ 0x01 ∷ 0xC1 ∷ []; session = 1; old = None; request = Some 1; slice = None; dnn = None })
