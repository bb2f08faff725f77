-- The meaning of an order on a line.
use Rattle.std.specs.Prelude.{ℕ, Bool, true, false, if◌then◌else◌, List, [], ◌∷◌, Option, None}
use Rattle.std.specs.Prelude.{Some, option_and_then}
use Rattle.script_links.specs.Orders.{order_of}
use Rattle.script_links.specs.declared.orders.Order.{Order}
use Rattle.script_links.specs.TermCommands.{PlainTermCommand, order, unit, units, errors, line, msu}
use Rattle.script_links.specs.TermCommands.{out, ticks, told, accepted, retrieving, measuring}
use Rattle.script_links.specs.TermCommands.{counting_aborted, resetting, state, shown, expected}
use Rattle.script_links.specs.TermCommands.{term_command_of}

-- the script commands that affect neither the line nor its time
abbrev pub is_on_line : PlainTermCommand → Bool
is_on_line (order o) = true
is_on_line (unit octets) = false
is_on_line (units n octets) = false
is_on_line (errors n) = false
is_on_line (line octets) = false
is_on_line (msu octets) = true
is_on_line (out n) = false
is_on_line (ticks n) = false
is_on_line told = true
is_on_line accepted = true
is_on_line (retrieving behind) = true
is_on_line (measuring measure) = true
is_on_line counting_aborted = true
is_on_line resetting = true
is_on_line (state process) = true
is_on_line (shown process variable) = true
is_on_line (expected text) = false

-- the commands whose answer says more than that they were obeyed
abbrev pub is_question : PlainTermCommand → Bool
is_question (order o) = false
is_question (unit octets) = false
is_question (units n octets) = false
is_question (errors n) = false
is_question (line octets) = false
is_question (msu octets) = false
is_question (out n) = false
is_question (ticks n) = false
is_question told = true
is_question accepted = true
is_question (retrieving behind) = true
is_question (measuring measure) = true
is_question counting_aborted = true
is_question resetting = false
is_question (state process) = true
is_question (shown process variable) = true
is_question (expected text) = false

abbrev pub where_on_line : PlainTermCommand → Option PlainTermCommand
where_on_line command = if is_on_line command then Some command else None

abbrev pub by_order : Option Order → Option PlainTermCommand → Option PlainTermCommand
by_order None command = command
by_order (Some o) command = Some (order o)

-- a script command for a terminal may stand by itself, without the word `command`
unfoldable pub line_command_of : List (List ℕ) → Option PlainTermCommand
line_command_of [] = None
line_command_of (word ∷ []) =
    by_order (order_of word) (option_and_then where_on_line (term_command_of (word ∷ [])))
line_command_of (first ∷ word ∷ words) =
    option_and_then where_on_line (term_command_of (first ∷ word ∷ words))
