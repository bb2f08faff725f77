-- Octets in hexadecimal digits, and whether they are a signal unit or a message.
use Rattle.std.specs.Prelude.{ℕ, ◌-◌, ◌%◌, ◌==◌, nat_le, Bool, ◌&&◌, List, length, slice_index}
use Rattle.std.specs.Prelude.{Option, None, Some, Result, Ok, Err}
use Rattle.hex.specs.Hex.{decode_of}
use Rattle.hex.specs.declared.error.FromHexError.{FromHexError}
use Rattle.su_octets.specs.Frame.{length_indicator}

abbrev pub octets_by : Result (List ℕ) FromHexError → Option (List ℕ)
octets_by (Ok octets) = Some octets
octets_by (Err fault) = None

-- Two digits for each octet, in either case.
abbrev pub octets_of : List ℕ → Option (List ℕ)
octets_of word = octets_by (decode_of word)

-- A signal unit without its check octets: two octets of sequence numbers, then one whose low six
-- bits are the length indicator, then at most 273 octets (Q.703, 2.2 and 2.3.3).
abbrev pub is_unit : List ℕ → Bool
is_unit octets =
    nat_le 3 (length octets) && nat_le (length octets) 276
    && slice_index octets 2 % 64 == length_indicator (length octets - 3)

-- The service information octet, and 2 to 272 octets of the signalling information field.
abbrev pub is_message : List ℕ → Bool
is_message octets = nat_le 3 (length octets) && nat_le (length octets) 273
