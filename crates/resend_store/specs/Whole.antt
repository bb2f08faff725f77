-- The window of a sender over all messages ever given to it, acknowledged ones too, and the kept
-- windows that represent it.
use Rattle.std.specs.Prelude.{◌≡◌, ℕ, ◌+◌, ◌-◌, ◌%◌, ◌≤◌, ◌==◌, ◌&&◌, nat_lt, nat_le, max, Bool}
use Rattle.std.specs.Prelude.{true, false, if◌then◌else◌, List, [], ◌∷◌, ◌++◌, length, take, drop}
use Rattle.std.specs.Prelude.{Option, Some, None, slice_get}
use Rattle.resend_store.specs.declared.messages.Msu.{Msu}
use Rattle.resend_store.specs.declared.messages.Mode.{Mode}
use Rattle.resend_store.specs.declared.messages.Mode.TheVariants.{Basic, Cyclic}
use Rattle.resend_store.specs.declared.messages.Outgoing.{Outgoing}
use Rattle.resend_store.specs.declared.messages.RoundLimits.{RoundLimits}
use Rattle.resend_store.specs.Limits.{MOST_UNACKNOWLEDGED, MOST_WAITING, MOST_KEPT}
use Rattle.resend_store.specs.Numbers.{minus}
use Rattle.resend_store.specs.Messages.{reaches_limit}
use Rattle.resend_store.specs.Window.{Window, start_within, next, count_by, retrieved}
use Rattle.resend_store.specs.Runs.{Call, put, put_diverted, next_unit, on_back, retrieve, fresh}
use Rattle.resend_store.specs.Runs.{is_accepted, step, after}

-- Places are indices in the list of all messages, so no message ever changes its place.
pub record Whole : Type 0 where
  pub mode : Mode
  -- the numbers of unacknowledged messages and octets that force cyclic retransmission
  pub limits : RoundLimits
  -- all messages put, oldest first, except those that were handed back
  pub messages : List Msu
  -- the place of the number 0
  pub origin : ℕ
  -- the place of the first message that isn't acknowledged
  pub acknowledged : ℕ
  -- the place of the first message that wasn't sent
  pub sent : ℕ
  -- the forward indicator bit
  pub fib : ℕ
  -- the place to repeat from; if no retransmission is under way, the place of the first message not
  -- sent
  pub repeat_from : ℕ
  -- whether that retransmission is a round of forced retransmission
  pub forced : Bool
  -- the place at which the ordinary cycle continues
  pub turn : ℕ

-- the forward sequence number of the message at a place
abbrev pub number_of : Whole → ℕ → ℕ
number_of h i = (i - h.origin) % 128

-- the messages sent and not acknowledged
abbrev pub in_window : Whole → List Msu
in_window h = drop h.acknowledged (take h.sent h.messages)

-- no message put yet
abbrev pub whole_start : RoundLimits → Mode → Whole
whole_start limits mode =
    record {
      mode = mode;
      limits = limits;
      messages = [];
      origin = 0;
      acknowledged = 0;
      sent = 0;
      fib = 1;
      repeat_from = 0;
      forced = false;
      turn = 0;
    }

-- The result of a call to send: the unit, and the window after it.
pub record WholeSending : Type 0 where
  pub unit : Outgoing
  pub left : Whole

-- the message at a place goes out
abbrev pub carries : Whole → ℕ → Outgoing
carries h i = record { fsn = number_of h i; fib = h.fib; msu = slice_get h.messages i }

-- no message to send: the number is that before the next new message
abbrev pub fills_in : Whole → WholeSending
fills_in h =
    record {
      unit = record { fsn = minus (number_of h h.sent) 1; fib = h.fib; msu = None };
      left = h;
    }

-- the retransmission sends its next message
abbrev pub goes_again : Whole → WholeSending
goes_again h =
    record { unit = carries h h.repeat_from; left = record h { repeat_from = h.repeat_from + 1 } }

-- a forced round of all unacknowledged messages begins
abbrev pub forces : Whole → Whole
forces h = record h { repeat_from = h.acknowledged; forced = true }

abbrev pub forces_by : Mode → Whole → Whole
forces_by Basic h = h
forces_by Cyclic h = if reaches_limit h.limits (in_window h) then forces h else h

-- the first message not sent goes out
abbrev pub goes_out : Whole → WholeSending
goes_out h = record {
  unit = carries h h.sent;
  left = forces_by h.mode (record h { sent = h.sent + 1; repeat_from = h.sent + 1 });
}

-- the ordinary cycle sends its next message; the first follows the last
abbrev pub goes_in_turn : Whole → WholeSending
goes_in_turn h = record {
  unit = carries h h.turn;
  left = record h { turn = if h.turn + 1 == h.sent then h.acknowledged else h.turn + 1 };
}

-- whether a message waits, and fewer than 127 are unacknowledged
abbrev pub is_open : Whole → Bool
is_open h =
    nat_lt h.sent (length h.messages) && nat_lt (h.sent - h.acknowledged) MOST_UNACKNOWLEDGED

abbrev pub whole_next_basic : Whole → WholeSending
whole_next_basic h =
    if nat_lt h.repeat_from h.sent then goes_again h
    else (if is_open h then goes_out h else fills_in h)

abbrev pub whole_next_ordinary : Whole → WholeSending
whole_next_ordinary h =
    if is_open h then goes_out h
    else (if nat_lt h.acknowledged h.sent then goes_in_turn h else fills_in h)

abbrev pub whole_next_forced : Whole → WholeSending
whole_next_forced h =
    if nat_lt h.repeat_from h.sent then goes_again h
    else (if reaches_limit h.limits (in_window h) then goes_again (forces h)
    else whole_next_ordinary (record h { forced = false }))

abbrev pub whole_next_by : Mode → Whole → WholeSending
whole_next_by Basic h = whole_next_basic h
whole_next_by Cyclic h = if h.forced then whole_next_forced h else whole_next_ordinary h

-- the next unit to send
abbrev pub whole_next : Whole → WholeSending
whole_next h = whole_next_by h.mode h

-- how many messages a backward number acknowledges
abbrev pub whole_count : Whole → ℕ → ℕ
whole_count h bsn = minus bsn (minus (number_of h h.acknowledged) 1)

-- n more messages are acknowledged; none of these is repeated any more
abbrev pub acknowledges : Whole → ℕ → Whole
acknowledges h n = record h {
  acknowledged = h.acknowledged + n;
  repeat_from = max h.repeat_from (h.acknowledged + n);
  turn = max h.turn (h.acknowledged + n);
}

-- a backward bit unlike the forward one requests all unacknowledged messages
abbrev pub whole_asked : Mode → ℕ → Whole → Whole
whole_asked Basic bib h =
    if bib == h.fib then h else record h { fib = 1 - h.fib; repeat_from = h.acknowledged }
whole_asked Cyclic bib h = h

-- how many messages a retrieval acknowledges
abbrev pub whole_known : Whole → Option ℕ → ℕ
whole_known h (Some fsn) = whole_count h fsn
whole_known h None = 0

-- the messages that a retrieval hands back
abbrev pub handed : Whole → Option ℕ → List Msu
handed h (Some fsn) = drop (h.acknowledged + whole_count h fsn) h.messages
handed h None = drop h.sent h.messages

-- n more messages are acknowledged, and all messages after them are removed
abbrev pub whole_emptied : Whole → ℕ → Whole
whole_emptied h n =
    let a = h.acknowledged + n in
    record h {
      messages = take a h.messages;
      acknowledged = a;
      sent = a;
      repeat_from = a;
      forced = false;
      turn = a;
    }

-- numbers restart at the first message that isn't acknowledged, which is the next to be sent
abbrev pub whole_refreshed : Whole → Whole
whole_refreshed h = record h {
  origin = h.acknowledged;
  sent = h.acknowledged;
  fib = 1;
  repeat_from = h.acknowledged;
  forced = false;
  turn = h.acknowledged;
}

-- whether a call isn't refused
abbrev pub whole_accepts : Whole → Call → Bool
whole_accepts h (put m) = nat_lt (length h.messages - h.sent) MOST_WAITING
whole_accepts h (put_diverted m) = nat_lt (length h.messages - h.acknowledged) MOST_KEPT
whole_accepts h next_unit = true
whole_accepts h (on_back bsn bib) = nat_le (whole_count h bsn) (h.sent - h.acknowledged)
whole_accepts h (retrieve fsn) = nat_le (whole_known h fsn) (h.sent - h.acknowledged)
whole_accepts h fresh = true

abbrev pub whole_accepted : Whole → Call → Whole
whole_accepted h (put m) = record h { messages = h.messages ++ m ∷ [] }
whole_accepted h (put_diverted m) = record h { messages = h.messages ++ m ∷ [] }
whole_accepted h next_unit = (whole_next h).left
whole_accepted h (on_back bsn bib) = whole_asked h.mode bib (acknowledges h (whole_count h bsn))
whole_accepted h (retrieve fsn) = whole_emptied h (whole_known h fsn)
whole_accepted h fresh = whole_refreshed h

-- a refusal changes nothing
abbrev pub whole_step : Whole → Call → Whole
whole_step h call = if whole_accepts h call then whole_accepted h call else h

abbrev pub whole_after : Whole → List Call → Whole
whole_after h [] = h
whole_after h (call ∷ calls) = whole_after (whole_step h call) calls

-- The kept window w represents the window h over all messages: it keeps the messages after the last
-- acknowledged one.
pub record StandsFor (h : Whole) (w : Window) : Type 0 where
  pub mode : w.mode ≡ h.mode
  pub limits : w.limits ≡ h.limits
  pub kept : w.kept ≡ drop h.acknowledged h.messages
  pub sent : h.acknowledged + w.sent ≡ h.sent
  pub first : w.first ≡ number_of h h.acknowledged
  pub fib : w.fib ≡ h.fib
  pub again : h.repeat_from + w.again ≡ h.sent
  pub forced : w.forced ≡ h.forced
  pub turn : h.acknowledged + w.turn ≡ h.turn
  -- the window is a part of the list, after the origin
  pub origin : h.origin ≤ h.acknowledged
  pub inside : h.sent ≤ length h.messages
  pub repeats : h.acknowledged ≤ h.repeat_from
  -- in cyclic retransmission only a forced round repeats from a place
  pub idle : h.mode ≡ Cyclic → h.forced ≡ false → h.repeat_from ≡ h.sent

-- Both return the same results.
pub record AnswerAlike (h : Whole) (w : Window) : Type 0 where
  pub unit : (next w).unit ≡ (whole_next h).unit
  pub count : (bsn : ℕ) → count_by w bsn ≡ whole_count h bsn
  pub handed_back : (fsn : Option ℕ) → retrieved w fsn ≡ handed h fsn
  pub accepts : (call : Call) → is_accepted w call ≡ whole_accepts h call

-- The kept window determines all results of the window over all messages: steps of both keep the
-- relation. So it holds over every list of calls from `new` on.
pub record KeptIsEnough : Type 0 where
  pub alike : (h : Whole) (w : Window) → StandsFor h w → AnswerAlike h w
  pub steps :
      (h : Whole) (w : Window) (call : Call) → StandsFor h w
      → StandsFor (whole_step h call) (step w call)
  pub runs : (limits : RoundLimits) (mode : Mode) (calls : List Call)
      → StandsFor (whole_after (whole_start limits mode) calls)
      (after (start_within limits mode) calls)
