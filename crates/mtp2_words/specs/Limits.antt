-- The limits of forced retransmission (Q.703, 6.4), from words.
use Rattle.std.specs.Prelude.{ℕ, List, Option, Some, None, option_map, option_and_then}
use Rattle.std.specs.Int.{is_in_range}
use Rattle.std.specs.Prelude.{if◌then◌else◌}
use Rattle.script_links.specs.Limits.{N1, N2, LEAST_N2}
use Rattle.script_links.specs.resend_store_types.messages.Mode.{Mode}
use Rattle.script_links.specs.resend_store_types.messages.Mode.TheVariants.{Basic, Cyclic}
use Rattle.script_links.specs.Numbers.{count_of}

-- a number, if it is in this range
abbrev pub within : ℕ → ℕ → ℕ → Option ℕ
within least most n = if is_in_range least most n then Some n else None

-- the number of messages: a count, 1 to N1
abbrev pub messages_named : List ℕ → Option ℕ
messages_named word = option_and_then (within 1 N1) (count_of word)

-- the number of octets: a count, LEAST_N2 to N2
abbrev pub octets_named : List ℕ → Option ℕ
octets_named word = option_and_then (within LEAST_N2 N2) (count_of word)

-- the chosen value, if there is a word; basic error correction allows none
abbrev pub chosen_by : (List ℕ → Option ℕ) → Mode → Option (List ℕ) → Option (Option ℕ)
chosen_by named mode None = Some None
chosen_by named Basic (Some word) = None
chosen_by named Cyclic (Some word) = option_map Some (named word)

abbrev pub messages_of : Mode → Option (List ℕ) → Option (Option ℕ)
messages_of mode word = chosen_by messages_named mode word

abbrev pub octets_of : Mode → Option (List ℕ) → Option (Option ℕ)
octets_of mode word = chosen_by octets_named mode word
