-- The meaning of a line in a stream of orders.
use Rattle.std.specs.Prelude.{ℕ, ◌==◌, ◌||◌, ◌&&◌, nat_le, Bool, false, if◌then◌else◌, List, []}
use Rattle.std.specs.Prelude.{◌∷◌, ◌++◌}
use Rattle.std.specs.Prelude.{length, slice_index, Option, None, Some, codes, string_bytes}
use Rattle.std.specs.List.{flat_map}
use Rattle.std.specs.Str.{bytes_eq}
use Rattle.script_lines.specs.Numbers.{number_up_to}
use Rattle.script_lines.specs.Words.{words_of}
use Rattle.script_lines.specs.Lines.{is_silent}
use Rattle.line_filter.specs.declared.says.LineSays.{LineSays}
use Rattle.line_filter.specs.declared.says.LineSays.TheVariants as code

-- A millisecond: only digits, up to 2^64 - 1.
abbrev pub millisecond_of : List ℕ → Option ℕ
millisecond_of word = number_up_to 18446744073709551615 word

pub data PlainSays : Type 0 where
  nothing : PlainSays
  at : ℕ → PlainSays  -- later orders wait until this millisecond
  order : List ℕ → PlainSays
  order_at : ℕ → List ℕ → PlainSays  -- an order that waits until this millisecond

abbrev pub plain_says : LineSays → PlainSays
plain_says code.Nothing = nothing
plain_says (code.At millisecond) = at millisecond
plain_says (code.Order text) = order (string_bytes text)
plain_says (code.OrderAt millisecond text) = order_at millisecond (string_bytes text)

-- The words, separated by single spaces.
abbrev pub joined : List ℕ → List (List ℕ) → List ℕ
joined first words = first ++ flat_map (λ (word : List ℕ). 32 ∷ word) words

-- This word after a millisecond marks a report that isn't about an obeyed order.
abbrev pub is_report : List ℕ → Bool
is_report word =
    bytes_eq word (codes "in")
    || (bytes_eq word (codes "down")
    || (bytes_eq word (codes "far") || (bytes_eq word (codes "message")
    || (bytes_eq word (codes "state")
    || (bytes_eq word (codes "value")
    || (bytes_eq word (codes "cleared")
    || (bytes_eq word (codes "told")
    || (bytes_eq word (codes "accepted")
    || (bytes_eq word (codes "retrieve")
    || (bytes_eq word (codes "measure")
    || (bytes_eq word (codes "refused")
    || (bytes_eq word (codes "lost")
    || (bytes_eq word (codes "orders")
    || (bytes_eq word (codes "table")
    || (bytes_eq word (codes "reader")
    || (bytes_eq word (codes "begins") || bytes_eq word (codes "late")))))))))))))))))

-- Such a report means nothing; any other line is an order, which terminals refuse.
abbrev pub by_other : List ℕ → List (List ℕ) → PlainSays
by_other first [] = order (joined first [])
by_other first (word ∷ words) =
    if is_report word then nothing else order (joined first (word ∷ words))

-- The words after a millisecond: `ok` and the order obeyed then, another report, or neither.
abbrev pub by_plain_report : ℕ → List ℕ → List (List ℕ) → PlainSays
by_plain_report millisecond first [] = by_other first []
by_plain_report millisecond first (word ∷ []) = by_other first (word ∷ [])
by_plain_report millisecond first (word ∷ next ∷ words) =
    if bytes_eq word (codes "ok") then order_at millisecond (joined next words)
    else by_other first (word ∷ next ∷ words)

-- A tag: `=` and 1 to 32 octets.
abbrev pub is_tag : List ℕ → Bool
is_tag word =
    slice_index word 0 == 61 && (nat_le 2 (length word) && nat_le (length word) 33)

-- The words after a tag: `ok` and the order obeyed then; other words mean nothing.
abbrev pub by_tagged : ℕ → List (List ℕ) → PlainSays
by_tagged millisecond [] = nothing
by_tagged millisecond (word ∷ []) = nothing
by_tagged millisecond (word ∷ next ∷ words) =
    if bytes_eq word (codes "ok") then order_at millisecond (joined next words) else nothing

-- The words after a millisecond, of which the first may be an order's tag.
abbrev pub by_report : ℕ → List ℕ → List (List ℕ) → PlainSays
by_report millisecond first [] = by_plain_report millisecond first []
by_report millisecond first (word ∷ words) =
    if is_tag word then by_tagged millisecond words
    else by_plain_report millisecond first (word ∷ words)

-- `at`, and a millisecond.
abbrev pub by_time : Option ℕ → List ℕ → List (List ℕ) → PlainSays
by_time None first words = order (joined first words)
by_time (Some millisecond) first words = at millisecond

abbrev pub by_at : Bool → List ℕ → List (List ℕ) → PlainSays
by_at is_at first (word ∷ []) =
    if is_at then by_time (millisecond_of word) first (word ∷ [])
    else order (joined first (word ∷ []))
by_at is_at first words = order (joined first words)

abbrev pub by_first : Option ℕ → List ℕ → List (List ℕ) → PlainSays
by_first (Some millisecond) first words = by_report millisecond first words
by_first None first words = by_at (bytes_eq first (codes "at")) first words

-- Blank lines and comments mean nothing. A line without a valid order means one that terminals
-- refuse.
abbrev pub says_of : List (List ℕ) → PlainSays
says_of [] = nothing
says_of (first ∷ words) =
    if is_silent (first ∷ words) then nothing else by_first (millisecond_of first) first words

-- ---- orders that end a run

abbrev pub is_end : List (List ℕ) → Bool
is_end [] = false
is_end (word ∷ []) = bytes_eq word (codes "quit") || bytes_eq word (codes "leave")
is_end (word ∷ seconds ∷ []) = bytes_eq word (codes "leave")
is_end (word ∷ next ∷ other ∷ words) = false

-- these words, after an optional tag
abbrev pub ends_run : List (List ℕ) → Bool
ends_run [] = false
ends_run (word ∷ words) = if is_tag word then is_end words else is_end (word ∷ words)

-- an order as it is given
abbrev pub is_end_order : List ℕ → Bool
is_end_order text = ends_run (words_of text)
