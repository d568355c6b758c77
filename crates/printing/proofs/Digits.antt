-- The digits of octets, written one after another.
use Rattle.std.proofs.Common.{◌≡◌, ℕ, ◌+◌, ◌^◌, ◌-◌, ◌<◌, true, List, [], ◌++◌, length, get_or, take, Some, Ok, refl, sym, ap, ◌∙◌}
use Rattle.std.specs.Fmt.{digits, digits_output, styled_digits_output, format_spec, HasWritten, DisplaysOnOk}
use Rattle.std.specs.List.{flat_map}
use Rattle.std.proofs.Output.{has_written_of_eq, has_written_append}
use Rattle.std.proofs.lemmas.Fmt.{hex_byte}
use Rattle.std.proofs.lemmas.List.{flat_map_more, take_more}
use Rattle.printing.specs.Octets.{octet_text}

-- `{:02X}` writes the two digits of an octet
octet_written : (x : ℕ) (d : _) (s : _) → x < 256 → s ≡ format_spec 32 0 4 2 (2 ^ 64 - 1) → digits_output d ≡ Some (digits 16 true x) → styled_digits_output d s ≡ Some (octet_text x)
octet_written x d s small e f = rw e (rw f (ap Some (hex_byte true x small)))

-- the octet at i, after those before it
one_more : (xs : List ℕ) (i : ℕ) → i < length xs → flat_map octet_text (take i xs) ++ octet_text (get_or xs i 0) ≡ flat_map octet_text (take (i + 1) xs)
one_more xs i lt = flat_map_more octet_text [] (take i xs) (get_or xs i 0) ∙ ap (flat_map octet_text) (sym (take_more xs i 0 lt))

pub written_more : {W : Type 0} (took : W → List ℕ → W → Type 0) (f g h : _) (xs : List ℕ) (i : ℕ) (d : _) (s : _) → i < length xs → get_or xs i 0 < 256 → HasWritten took f (flat_map octet_text (take i xs)) g → s ≡ format_spec 32 0 4 2 (2 ^ 64 - 1) → digits_output d ≡ Some (digits 16 true (get_or xs i 0)) → DisplaysOnOk took g (Ok tt) (styled_digits_output d s) h → HasWritten took f (flat_map octet_text (take (i + 1) xs)) h
written_more took f g h xs i d s lt small before e r w =
    has_written_of_eq took f _ _ h (one_more xs i lt) (has_written_append took f _ g _ h before ((rw (octet_written (get_or xs i 0) d s small e r) at w) before.plain refl))
