-- The printed text of an octet.
use Rattle.std.proofs.Common.{◌≡◌, ℕ, ◌<◌, ◌^◌, ◌-◌, true, false, Some, ap, ◌∙◌}
use Rattle.std.specs.Option.{option_map}
use Rattle.std.specs.Fmt.{digits, digits_output, styled_digits_output, padded_integral, shown_prefix, radix_prefix, format_spec}
use Rattle.std.proofs.lemmas.Fmt.{hex_byte}
use Rattle.su_octets.specs.Printed.{octet_text}

-- the output of a format hole of two digits with leading zeros
pub styled_octet : (d : _) (s : _) (octet : ℕ) → octet < 256 → digits_output d ≡ Some (digits 16 true octet) → s ≡ format_spec 32 0 4 2 (2 ^ 64 - 1)
    → styled_digits_output d s ≡ Some (octet_text octet)
styled_octet d s octet small shown laid =
    ap (λ o. option_map (padded_integral s false (shown_prefix s (radix_prefix d.base))) o) shown
    ∙ ap (λ t. Some (padded_integral t false (shown_prefix t (radix_prefix d.base)) (digits 16 true octet))) laid
    ∙ ap Some (hex_byte true octet small)
