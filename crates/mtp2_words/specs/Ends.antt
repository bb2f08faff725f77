-- The words that describe one end of a link.
use Rattle.std.specs.Prelude.{◌≡◌, ◌⊎◌, ℕ, nat_le, if◌then◌else◌, List, Option, Some, None}
use Rattle.std.specs.Prelude.{option_map, option_and_then, bytes_eq, codes}
use Rattle.script_links.specs.resend_store_types.messages.Mode.{Mode}
use Rattle.script_links.specs.Numbers.{count_of}
use Rattle.script_links.specs.Orders.{mode_named}
use Rattle.line_filter.specs.Filters.{MOST_AHEAD}
use Rattle.line_filter.specs.declared.filter.Bits.{Bits}
use Rattle.line_filter.specs.declared.filter.Bits.TheVariants.{Low, High}
use Rattle.mtp2_words.specs.Limits.{messages_of, octets_of}
use Rattle.mtp2_words.specs.declared.ends.LineEnd.{LineEnd}
use Rattle.mtp2_words.specs.declared.ends.LineWords.{LineWords}

-- which bit of an octet is sent first
abbrev pub bits_named : List ℕ → Option Bits
bits_named word =
    if bytes_eq word (codes "low") then Some Low
    else (if bytes_eq word (codes "high") then Some High else None)

-- the first bit; the least significant one if there is no word
abbrev pub bits_of : Option (List ℕ) → Option Bits
bits_of None = Some Low
bits_of (Some word) = bits_named word

abbrev pub few : ℕ → Option ℕ
few n = if nat_le n MOST_AHEAD then Some n else None

-- the number of octets sent ahead: a count that isn't too large
abbrev pub ahead_named : List ℕ → Option ℕ
ahead_named word = option_and_then few (count_of word)

-- the number of octets sent ahead; none if there is no word
abbrev pub ahead_of : Option (List ℕ) → Option ℕ
ahead_of None = Some 0
ahead_of (Some word) = ahead_named word

-- the end that the words describe
pub record IsEndOf (words : LineWords) (end : LineEnd) : Type 0 where
  pub mode_is : mode_named words.mode.now ≡ Some end.mode
  pub bits_are : bits_of (option_map (λ w. w.now) words.bits) ≡ Some end.bits
  pub ahead_is : ahead_of (option_map (λ w. w.now) words.ahead) ≡ Some end.ahead
  pub messages_are : messages_of end.mode (option_map (λ w. w.now) words.n1) ≡ Some end.messages
  pub octets_are : octets_of end.mode (option_map (λ w. w.now) words.n2) ≡ Some end.octets
  pub orders_are : option_map (λ w. w.now) end.orders ≡ option_map (λ w. w.now) words.orders
  pub reports_are : option_map (λ w. w.now) end.reports ≡ option_map (λ w. w.now) words.reports
  pub capture_is : option_map (λ w. w.now) end.capture ≡ option_map (λ w. w.now) words.capture
  pub trace_is : option_map (λ w. w.now) end.trace ≡ option_map (λ w. w.now) words.trace
  pub every_is : end.every ≡ words.every
  pub measures_are : option_map (λ w. w.now) end.measures ≡ option_map (λ w. w.now) words.measures

-- N1 or N2 has a word that is no limit for this error correction
pub record HasNoLimit (words : LineWords) : Type 0 where
  pub mode : Mode
  pub mode_is : mode_named words.mode.now ≡ Some mode
  pub none : (messages_of mode (option_map (λ w. w.now) words.n1) ≡ None)
      ⊎ (octets_of mode (option_map (λ w. w.now) words.n2) ≡ None)

-- one of the words is invalid
abbrev pub IsNoEnd : LineWords → Type 0
IsNoEnd words =
    (mode_named words.mode.now ≡ None) ⊎ (bits_of (option_map (λ w. w.now) words.bits) ≡ None)
    ⊎ (ahead_of (option_map (λ w. w.now) words.ahead) ≡ None) ⊎ HasNoLimit words
