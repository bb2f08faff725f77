-- The meaning of an order to a link set.
use Rattle.std.specs.Prelude.{ℕ, nat_lt, Bool, true, false, if◌then◌else◌}
use Rattle.std.specs.Prelude.{List, [], ◌∷◌}
use Rattle.std.specs.Prelude.{length, codes, string_bytes}
use Rattle.std.specs.Prelude.{Option, None, Some, option_map, option_and_then}
use Rattle.std.specs.Str.{bytes_eq}
use Rattle.script_lines.specs.Numbers.{count_of}
use Rattle.script_links.specs.Octets.{octets_of}
use Rattle.script_links.specs.Orders.{order_of}
use Rattle.script_links.specs.declared.orders.Order.{Order}
use Rattle.script_links.specs.declared.orders.Order.TheVariants as orders
use Rattle.script_links.specs.resend_store_types.measures.Measure.{Measure}
use Rattle.script_links.specs.TermCommands as term
use Rattle.script_links.specs.TermCommands.{PlainTermCommand, term_command_of}
use Rattle.line_play.specs.declared.set.orders.Focus.{Focus}
use Rattle.line_play.specs.declared.set.orders.Focus.TheVariants.{Link as OneLink, All}
use Rattle.line_play.specs.declared.set.orders.SetOrder.{SetOrder}
use Rattle.line_play.specs.declared.set.orders.SetOrder.TheVariants as code

-- ---- orders, by the meaning of their words

pub data PlainSetOrder : Type 0 where
  on : Focus → PlainSetOrder
  links : Order → PlainSetOrder
  state : List ℕ → PlainSetOrder
  value : List ℕ → List ℕ → PlainSetOrder
  measuring : Measure → PlainSetOrder
  aborted : PlainSetOrder
  measures : PlainSetOrder
  resetting : PlainSetOrder
  send : List ℕ → PlainSetOrder
  table : PlainSetOrder
  held : PlainSetOrder
  unsure : PlainSetOrder
  rebalance : PlainSetOrder
  reopen : PlainSetOrder
  quit : PlainSetOrder
  leave : Option ℕ → PlainSetOrder

abbrev pub plain_set_order : SetOrder → PlainSetOrder
plain_set_order (code.On focus) = on focus
plain_set_order (code.Link order) = links order
plain_set_order (code.State process) = state (string_bytes process)
plain_set_order (code.Value process variable) = value (string_bytes process) (string_bytes variable)
plain_set_order (code.Measure measure) = measuring measure
plain_set_order code.Aborted = aborted
plain_set_order code.Measures = measures
plain_set_order code.Reset = resetting
plain_set_order (code.Send octets) = send octets.items
plain_set_order code.Table = table
plain_set_order code.Held = held
plain_set_order code.Unsure = unsure
plain_set_order code.Rebalance = rebalance
plain_set_order code.Reopen = reopen
plain_set_order code.Quit = quit
plain_set_order (code.Leave seconds) = leave seconds

-- ---- words

-- a single word: a question to all links or to the set, or a script command for a terminal
abbrev pub alone_of : List ℕ → Option PlainSetOrder
alone_of word =
    if bytes_eq word (codes "measure") then Some measures
    else (if bytes_eq word (codes "table") then Some table
    else (if bytes_eq word (codes "held") then Some held
    else (if bytes_eq word (codes "unsure") then Some unsure
    else (if bytes_eq word (codes "rebalance") then Some rebalance
    else (if bytes_eq word (codes "reopen") then Some reopen
    else (if bytes_eq word (codes "quit") then Some quit
    else (if bytes_eq word (codes "leave") then Some (leave None)
    else option_map links (order_of word))))))))

-- after `on`: a link's number, or all; an `on` always selects some links
abbrev pub focus_of : List ℕ → Option Focus
focus_of word =
    if bytes_eq word (codes "all") then Some All else option_map OneLink (count_of word)

-- the script commands for a terminal that are questions, and `measure reset`
abbrev pub question_of : PlainTermCommand → Option PlainSetOrder
question_of (term.order o) = None
question_of (term.unit octets) = None
question_of (term.units n octets) = None
question_of (term.errors n) = None
question_of (term.line octets) = None
question_of (term.msu octets) = None
question_of (term.out n) = None
question_of (term.ticks n) = None
question_of term.told = None
question_of term.accepted = None
question_of (term.retrieving behind) = None
question_of (term.measuring measure) = Some (measuring measure)
question_of term.counting_aborted = Some aborted
question_of term.resetting = Some resetting
question_of (term.state process) = Some (state process)
question_of (term.shown process variable) = Some (value process variable)
question_of (term.expected text) = None

abbrev pub asked_of : List (List ℕ) → Option PlainSetOrder
asked_of words = option_and_then question_of (term_command_of words)

-- after `leave`: seconds
abbrev pub leave_of : List ℕ → Option PlainSetOrder
leave_of word = option_map (λ (n : ℕ). leave (Some n)) (count_of word)

abbrev pub pair_of : List ℕ → List ℕ → Option PlainSetOrder
pair_of first word =
    if bytes_eq first (codes "on") then option_map on (focus_of word)
    else (if bytes_eq first (codes "leave") then leave_of word
    else asked_of (first ∷ word ∷ []))

-- any order except `send`
abbrev pub other_order_of : List (List ℕ) → Option PlainSetOrder
other_order_of [] = None
other_order_of (word ∷ []) = alone_of word
other_order_of (first ∷ word ∷ []) = pair_of first word
other_order_of (first ∷ word ∷ next ∷ more) = asked_of (first ∷ word ∷ next ∷ more)

-- ---- `send`

-- the word after `send`, if no other word follows
abbrev pub sent_word : List (List ℕ) → Option (List ℕ)
sent_word [] = None
sent_word (first ∷ []) = None
sent_word (first ∷ word ∷ []) = if bytes_eq first (codes "send") then Some word else None
sent_word (first ∷ word ∷ next ∷ more) = None

-- a message has 5 to 273 octets
abbrev pub send_of : List ℕ → Option PlainSetOrder
send_of octets =
    if nat_lt (length octets) 5 then None
    else (if nat_lt 273 (length octets) then None else Some (send octets))

abbrev pub by_sent_word : Option (List ℕ) → Option PlainSetOrder → Option PlainSetOrder
by_sent_word None other = other
by_sent_word (Some word) other = option_and_then send_of (octets_of word)

-- ---- the meaning of words

abbrev pub set_order_of : List (List ℕ) → Option PlainSetOrder
set_order_of words = by_sent_word (sent_word words) (other_order_of words)

-- ---- kinds of orders

-- a question or an order that addresses links
abbrev pub needs_links : PlainSetOrder → Bool
needs_links (on focus) = false
needs_links (links order) = true
needs_links (state process) = true
needs_links (value process variable) = true
needs_links (measuring measure) = true
needs_links aborted = true
needs_links measures = true
needs_links resetting = true
needs_links (send octets) = false
needs_links table = false
needs_links held = false
needs_links unsure = false
needs_links rebalance = false
needs_links reopen = false
needs_links quit = false
needs_links (leave seconds) = false

-- whether an order sends a message
abbrev pub is_send : PlainSetOrder → Bool
is_send (on focus) = false
is_send (links order) = false
is_send (state process) = false
is_send (value process variable) = false
is_send (measuring measure) = false
is_send aborted = false
is_send measures = false
is_send resetting = false
is_send (send octets) = true
is_send table = false
is_send held = false
is_send unsure = false
is_send rebalance = false
is_send reopen = false
is_send quit = false
is_send (leave seconds) = false
