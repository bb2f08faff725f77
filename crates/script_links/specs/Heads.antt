-- The first lines of a terminal's script and of a link set's.
use Rattle.std.specs.Prelude.{ℕ, nat_le, ◌&&◌, if◌then◌else◌, List, [], ◌∷◌, Option, None, Some}
use Rattle.std.specs.Prelude.{option_map, option_and_then, codes}
use Rattle.std.specs.Str.{bytes_eq}
use Rattle.resend_store.specs.Messages.{chosen_limits}
use Rattle.resend_store.specs.declared.messages.Mode.{Mode}
use Rattle.resend_store.specs.declared.messages.Mode.TheVariants.{Cyclic}
use Rattle.resend_store.specs.declared.messages.RoundLimits.{RoundLimits}
use Rattle.script_lines.specs.Numbers.{count_of}
use Rattle.script_links.specs.Orders.{mode_named}
use Rattle.script_links.specs.declared.heads.TermHead.{TermHead}
use Rattle.script_links.specs.declared.heads.GroupHead.{GroupHead}

-- ---- of a terminal's script

-- The chosen limits, or the usual ones if none are chosen.
abbrev pub limits_over : RoundLimits → Option RoundLimits → RoundLimits
limits_over usual None = usual
limits_over usual (Some limits) = limits

-- N1 messages and N2 octets, each a count in its range
abbrev pub limits_by : Option ℕ → Option ℕ → Option RoundLimits
limits_by None octets = None
limits_by (Some messages) None = None
limits_by (Some messages) (Some octets) = chosen_limits messages octets

-- Cyclic retransmission with these limits.
abbrev pub cyclic_within : Option RoundLimits → Option TermHead
cyclic_within limits = option_map (λ l. record { mode = Cyclic; limits = Some l }) limits

-- A kind of error correction, without chosen limits.
abbrev pub of_mode : Option Mode → Option TermHead
of_mode mode = option_map (λ m. record { mode = m; limits = None }) mode

-- `terminal`, and the kind
abbrev pub head_of_mode : List ℕ → List ℕ → Option TermHead
head_of_mode word mode =
    if bytes_eq word (codes "terminal") then of_mode (mode_named mode) else None

-- `terminal cyclic`, N1 and N2
abbrev pub head_within : List ℕ → List ℕ → List ℕ → List ℕ → Option TermHead
head_within word mode messages octets =
    if bytes_eq word (codes "terminal") && bytes_eq mode (codes "cyclic") then
    cyclic_within (limits_by (count_of messages) (count_of octets))
    else None

abbrev pub term_head_of : List (List ℕ) → Option TermHead
term_head_of (word ∷ mode ∷ []) = head_of_mode word mode
term_head_of (word ∷ mode ∷ messages ∷ octets ∷ []) = head_within word mode messages octets
term_head_of _ = None

-- ---- of a link set's script

-- A set has at least one link. A link's number has 4 bits, as a selection has (Q.704, 2.2).
abbrev pub MOST_LINKS : ℕ
MOST_LINKS = 16

abbrev pub as_links : ℕ → Option ℕ
as_links n = if nat_le 1 n && nat_le n MOST_LINKS then Some n else None

-- The number of links that a word spells.
abbrev pub links_of : List ℕ → Option ℕ
links_of word = option_and_then as_links (count_of word)

abbrev pub head_with : Option Mode → Option ℕ → Option GroupHead
head_with None links = None
head_with (Some mode) None = None
head_with (Some mode) (Some links) = Some (record { mode = mode; links = links })

-- `group`, the kind of error correction, and the number of links.
abbrev pub head_by : List ℕ → List ℕ → List ℕ → Option GroupHead
head_by word mode number =
    if bytes_eq word (codes "group") then head_with (mode_named mode) (links_of number) else None

abbrev pub head_of : List (List ℕ) → Option GroupHead
head_of (word ∷ mode ∷ number ∷ []) = head_by word mode number
head_of _ = None
