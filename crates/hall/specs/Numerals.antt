-- Numbers in the words of a command that are read in one way wherever they stand.
use Rattle.std.specs.Prelude.{ℕ, cond, List, Some, None, Option, nat_lt}
use Rattle.codes.specs.declared.slice_dnn.SliceDnn.{SliceDnn}
use Rattle.scenario.specs.Number.{number_in}
use Rattle.scenario.specs.Slice.{slice_in}
use Rattle.hall.specs.Changes.{where_some, byte_in}

-- a number that four octets hold
abbrev pub below_u32 : ℕ → Option ℕ
below_u32 n = cond (nat_lt n 4294967296) (Some n) None

abbrev pub u32_in : List ℕ → Option ℕ
u32_in word = where_some (number_in word) below_u32

unfoldable pub pair_of : List ℕ → List ℕ → Option SliceDnn
pair_of s n =
    where_some (slice_in s) (λ slice. where_some (byte_in n) (λ dnn. Some (record { slice = slice; dnn = dnn })))
