-- The orders of a stream, each with the millisecond before which it isn't obeyed.
use Rattle.std.specs.Prelude.{◌≡◌, ℕ, ◌<◌, ◌==◌, nat_le, max, ◌&&◌, if◌then◌else◌, List, [], ◌∷◌}
use Rattle.std.specs.Prelude.{◌++◌, length, Option, None, Some, drop, option_map, string_bytes}
use Rattle.std.specs.Str.{is_utf8}
use Rattle.script_lines.specs.Words.{words_of}
use Rattle.line_filter.specs.Orders.{Timed}
use Rattle.line_filter.specs.Says.{PlainSays, nothing, at, order, order_at, says_of}
use Rattle.line_filter.specs.declared.lines.OrderLines.{OrderLines}

-- The most octets of a line, without its end.
abbrev pub MOST_OCTETS : ℕ
MOST_OCTETS = 600

-- The lines that are complete, without their line feeds. The first one begins with the octets
-- `line`.
abbrev pub whole_lines : List ℕ → List ℕ → List (List ℕ)
whole_lines line [] = []
whole_lines line (b ∷ bs) =
    if b == 10 then line ∷ whole_lines [] bs else whole_lines (line ++ b ∷ []) bs

-- The meaning of a line; too long or not UTF-8, it is an order that no terminal knows.
unfoldable pub line_says : List ℕ → PlainSays
line_says line =
    if nat_le (length line) MOST_OCTETS && is_utf8 line then says_of (words_of line) else order []

-- The order of a line, if it has one, given the millisecond `since` of the lines before it. A later
-- millisecond in the line itself counts instead.
abbrev pub said_at : ℕ → PlainSays → List Timed
said_at since nothing = []
said_at since (at millisecond) = []
said_at since (order text) = record { at = since; text = text } ∷ []
said_at since (order_at millisecond text) = record { at = max since millisecond; text = text } ∷ []

-- The millisecond until which later orders wait: no line undoes the time of an earlier one.
abbrev pub wait_behind : ℕ → PlainSays → ℕ
wait_behind since nothing = since
wait_behind since (at millisecond) = max since millisecond
wait_behind since (order text) = since
wait_behind since (order_at millisecond text) = max since millisecond

abbrev pub timed : ℕ → List (List ℕ) → List Timed
timed since [] = []
timed since (line ∷ lines) =
    said_at since (line_says line) ++ timed (wait_behind since (line_says line)) lines

-- The orders of all complete lines of the octets.
abbrev pub orders_of : List ℕ → List Timed
orders_of octets = timed 0 (whole_lines [] octets)

-- ---- while the lines are read

abbrev pub waiting_by : ℕ → Option (List ℕ) → List Timed
waiting_by since None = []
waiting_by since (Some text) = record { at = since; text = text } ∷ []

abbrev pub waiting_of : OrderLines → List Timed
waiting_of l = waiting_by l.since (option_map string_bytes l.waiting)

-- The orders of the lines still incomplete, if these octets are still to be read.
abbrev pub behind_of : OrderLines → List ℕ → List Timed
behind_of l more = timed l.since (whole_lines l.line.items (drop l.from l.part.items ++ more))

-- The remaining orders, if these octets are still to be read.
unfoldable pub left_in : OrderLines → List ℕ → List Timed
left_in l more = waiting_of l ++ behind_of l more

-- The next order must wait.
pub record IsHeld (now : ℕ) (l : OrderLines) : Type 0 where
  pub later : now < l.since
  pub text : List ℕ
  pub left : (more : List ℕ)
      → left_in l more ≡ record { at = l.since; text = text } ∷ behind_of l more
