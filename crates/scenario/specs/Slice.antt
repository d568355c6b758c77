-- The slice code that a word writes: eight hexadecimal digits, which are four octets, the SST first.
use Rattle.std.specs.Prelude.{ℕ, ◌+◌, ◌*◌, cond, List, length, Some, None, Option, ◌==◌, slice_index}
use Rattle.scenario.specs.Octets.{digit_in, octet_of}

-- the octet of the digits at i and behind it
abbrev pub octet_at : ℕ → List ℕ → Option ℕ
octet_at i xs = octet_of (digit_in (slice_index xs i)) (digit_in (slice_index xs (i + 1)))

-- the code of four octets, where all are known
abbrev pub slice_of : Option ℕ → Option ℕ → Option ℕ → Option ℕ → Option ℕ
slice_of None x y z = None
slice_of (Some s) None y z = None
slice_of (Some s) (Some x) None z = None
slice_of (Some s) (Some x) (Some y) None = None
slice_of (Some s) (Some x) (Some y) (Some z) = Some (s * 0x1000000 + x * 0x10000 + y * 0x100 + z)

abbrev pub slice_in : List ℕ → Option ℕ
slice_in xs =
    cond (length xs == 8) (slice_of (octet_at 0 xs) (octet_at 2 xs) (octet_at 4 xs) (octet_at 6 xs)) None
