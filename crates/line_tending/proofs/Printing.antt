-- Texts that are printed one after another.
use Rattle.std.proofs.Common.{◌≡◌, ◌∙◌, ℕ, ◌+◌, ◌<◌, ◌^◌, ◌-◌, List, [], ◌∷◌, ◌++◌, length, take, true, false, Some, ap, sym}
use Rattle.std.specs.List.{flat_map}
use Rattle.std.specs.Option.{option_map}
use Rattle.std.specs.Fmt.{digits, digits_output, styled_digits_output, padded_integral, shown_prefix, radix_prefix, format_spec}
use Rattle.std.proofs.lemmas.Fmt.{hex_byte}
use Rattle.std.proofs.lemmas.List.{take_more, flat_map_more}
use Rattle.line_tending.specs.Texts.{octet_text}
use lib.ListN.{get_or}

-- The output of a format of two digits with leading zeros.
pub styled_octet : (d : _) (s : _) (octet : ℕ) → octet < 256 → digits_output d ≡ Some (digits 16 true octet) → s ≡ format_spec 32 0 4 2 (2 ^ 64 - 1)
    → styled_digits_output d s ≡ Some (octet_text octet)
styled_octet d s octet small shown laid =
    ap (λ o. option_map (padded_integral s false (shown_prefix s (radix_prefix d.base))) o) shown
    ∙ ap (λ t. Some (padded_integral t false (shown_prefix t (radix_prefix d.base)) (digits 16 true octet))) laid
    ∙ ap Some (hex_byte true octet small)

-- One more item.
pub more_at : {X : Type 0} (f : X → List ℕ) (items : List X) (i : ℕ) (d : X) → i < length items
    → flat_map f (take i items) ++ f (get_or items i d) ≡ flat_map f (take (i + 1) items)
more_at f items i d within = flat_map_more f [] (take i items) (get_or items i d) ∙ ap (flat_map f) (sym (take_more items i d within))
