-- A slice code is read from what is written of it.
use Rattle.std.proofs.Common.{◌≡◌, ℕ, ◌+◌, ◌*◌, ◌/◌, ◌%◌, ◌^◌, ◌<◌, Some, refl, ap, ◌∙◌, arith}
use Rattle.printing.specs.Octets.{octets_text}
use Rattle.printing.specs.Slice.{slice_octets}
use Rattle.scenario.specs.Slice.{slice_of, slice_in}
use Rattle.scenario.proofs.Pairs.{octet_back}

-- the first part gives `grind` the number
pub slice_back : (n : ℕ) → n < 2 ^ 32 → (n / 0x1000000 ≡ n / 0x1000000) × (slice_in (octets_text (slice_octets n)) ≡ Some n)
slice_back n h =
    let second : n / 0x10000 ≡ n / 0x100 / 0x100 = omega arith in
    let third : n / 0x1000000 ≡ n / 0x10000 / 0x100 = omega arith in
    let top : n / 0x1000000 % 256 ≡ n / 0x1000000 = omega (arith, h) in
    let e : n / 0x1000000 % 256 * 0x1000000 + n / 0x10000 % 256 * 0x10000 + n / 0x100 % 256 * 0x100 + n % 256 ≡ n = omega (arith, second, third, top) in
    (refl, (λ i. slice_of (octet_back (n / 0x1000000 % 256) (omega arith) i) (octet_back (n / 0x10000 % 256) (omega arith) i) (octet_back (n / 0x100 % 256) (omega arith) i) (octet_back (n % 256) (omega arith) i)) ∙ ap Some e)
