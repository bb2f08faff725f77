-- What a sender keeps, and the effect of each of its calls (Q.703: basic error correction, and
-- error correction by preventive cyclic retransmission).
use Rattle.std.specs.Prelude.{◌≡◌, ℕ, ◌+◌, ◌-◌, ◌<◌, ◌≤◌, ◌==◌, ◌&&◌, nat_lt, nat_le, min}
use Rattle.std.specs.Prelude.{
  Bool,
  true,
  false,
  if◌then◌else◌,
  List,
  [],
  ◌∷◌,
  ◌++◌,
  length,
  take,
  drop,
  All,
}
use Rattle.std.specs.Prelude.{Option, Some, None, slice_get}
use Rattle.resend_store.specs.declared.messages.Msu.{Msu}
use Rattle.resend_store.specs.declared.messages.Mode.{Mode}
use Rattle.resend_store.specs.declared.messages.Mode.TheVariants.{Basic, Cyclic}
use Rattle.resend_store.specs.declared.messages.Outgoing.{Outgoing}
use Rattle.resend_store.specs.declared.messages.RoundLimits.{RoundLimits}
use Rattle.resend_store.specs.Limits.{MOST_UNACKNOWLEDGED, MOST_KEPT}
use Rattle.resend_store.specs.Numbers.{plus, minus}
use Rattle.resend_store.specs.Messages.{IsMessage, usual_limits, reaches_limit}

-- The messages after the last acknowledged one, and their numbers.
pub record Window : Type 0 where
  pub mode : Mode
  -- the numbers of unacknowledged messages and octets that force cyclic retransmission
  pub limits : RoundLimits
  -- oldest first: those that are sent and not acknowledged, then those that wait
  pub kept : List Msu
  -- how many of them are sent
  pub sent : ℕ
  -- the forward sequence number of the first of them
  pub first : ℕ
  -- the forward indicator bit to send
  pub fib : ℕ
  -- how many of the last sent messages the current retransmission still has to repeat
  pub again : ℕ
  -- whether that retransmission is a round of forced retransmission
  pub forced : Bool
  -- the index of the sent message that the ordinary cycle repeats next
  pub turn : ℕ

-- the messages sent and not acknowledged
abbrev pub unacknowledged : Window → List Msu
unacknowledged w = take w.sent w.kept

-- the messages not sent since both directions last started over
abbrev pub waiting : Window → List Msu
waiting w = drop w.sent w.kept

-- the forward sequence number of the kept message at an index
abbrev pub number_at : Window → ℕ → ℕ
number_at w i = plus w.first i

-- the number of the last message that was acknowledged
abbrev pub last_acknowledged : Window → ℕ
last_acknowledged w = minus w.first 1

-- what a mode leaves unused: retransmission on request has no rounds and no cycle; cyclic
-- retransmission has one indicator value, and repeats from a place only in a round
abbrev pub UsesOnly : Mode → Window → Type 0
UsesOnly Basic w = (w.forced ≡ false) × (w.turn ≡ 0)
UsesOnly Cyclic w = (w.fib ≡ 1) × (w.forced ≡ false → w.again ≡ 0)

-- the invariant of each window that a sender keeps
pub record IsWindow (w : Window) : Type 0 where
  pub messages : All IsMessage w.kept
  pub within_kept : w.sent ≤ length w.kept
  pub within_window : w.sent ≤ MOST_UNACKNOWLEDGED
  pub within_store : length w.kept ≤ MOST_KEPT
  pub number : w.first < 128
  pub indicator : w.fib < 2
  pub again_sent : w.again ≤ w.sent
  pub turn_sent : w.turn ≤ w.sent - 1
  pub by_mode : UsesOnly w.mode w

-- no message put yet, and numbers at their start
abbrev pub start_within : RoundLimits → Mode → Window
start_within limits mode =
    record {
      mode = mode;
      limits = limits;
      kept = [];
      sent = 0;
      first = 0;
      fib = 1;
      again = 0;
      forced = false;
      turn = 0;
    }

-- as `start_within`, with the default limits
abbrev pub start : Mode → Window
start mode = start_within usual_limits mode

-- one more message waits
abbrev pub with_put : Window → Msu → Window
with_put w m = record w { kept = w.kept ++ m ∷ [] }

-- Whether a further message may go out for the first time: one waits, and the window is open.
abbrev pub may_send : Window → Bool
may_send w = nat_lt w.sent (length w.kept) && nat_lt w.sent MOST_UNACKNOWLEDGED

-- Whether the unacknowledged messages must go out again without a request.
abbrev pub at_limit : Window → Bool
at_limit w = reaches_limit w.limits (unacknowledged w)

-- how many messages the current round of forced retransmission still has to send
abbrev pub round_left : Window → Option ℕ
round_left w = if w.forced then Some w.again else None

-- Whether the number of unacknowledged messages reaches its limit, which forces retransmission.
abbrev pub reaches_number : Window → Bool
reaches_number w = nat_le w.limits.messages w.sent

-- The result of a call to send: the unit, and the window after it.
pub record Sending : Type 0 where
  pub unit : Outgoing
  pub left : Window

-- the message unit for the kept message at an index
abbrev pub unit_at : Window → ℕ → Outgoing
unit_at w i = record { fsn = number_at w i; fib = w.fib; msu = slice_get w.kept i }

-- A fill-in unit has the number before that of the next new message.
abbrev pub fill_in : Window → Sending
fill_in w =
    record {
      unit = record { fsn = minus (number_at w w.sent) 1; fib = w.fib; msu = None };
      left = w;
    }

-- The retransmission under way sends its next message.
abbrev pub repeats : Window → Sending
repeats w = record { unit = unit_at w (w.sent - w.again); left = record w { again = w.again - 1 } }

-- a round of forced retransmission begins
abbrev pub round : Window → Window
round w = record w { again = w.sent; forced = true }

-- after a new message: in cyclic retransmission, a message that reaches a limit begins forced
-- retransmission
abbrev pub after_new : Mode → Window → Window
after_new Basic w = w
after_new Cyclic w = if at_limit w then round w else w

-- The first waiting message goes out for the first time.
abbrev pub sends_new : Window → Sending
sends_new w =
    record { unit = unit_at w w.sent; left = after_new w.mode (record w { sent = w.sent + 1 }) }

-- The ordinary cycle repeats one message and moves on: the first sent one follows the last.
abbrev pub cycles : Window → Sending
cycles w = record {
  unit = unit_at w w.turn;
  left = record w { turn = if w.turn + 1 == w.sent then 0 else w.turn + 1 };
}

-- Basic error correction: messages to repeat, then new messages, then fill-in units.
abbrev pub next_basic : Window → Sending
next_basic w =
    if nat_lt 0 w.again then repeats w else (if may_send w then sends_new w else fill_in w)

-- Cyclic, while nothing is forced: new messages, then the unacknowledged ones in turn, then fill-in
-- units.
abbrev pub next_ordinary : Window → Sending
next_ordinary w =
    if may_send w then sends_new w else (if nat_lt 0 w.sent then cycles w else fill_in w)

-- Cyclic, while retransmission is forced: the rest of the round; after it another round, while a
-- limit is reached.
abbrev pub next_forced : Window → Sending
next_forced w =
    if nat_lt 0 w.again then repeats w
    else (if at_limit w then repeats (round w) else next_ordinary (record w { forced = false }))

abbrev pub next_by : Mode → Window → Sending
next_by Basic w = next_basic w
next_by Cyclic w = if w.forced then next_forced w else next_ordinary w

-- The next unit to send.
abbrev pub next : Window → Sending
next w = next_by w.mode w

-- How many messages a backward sequence number acknowledges.
abbrev pub count_by : Window → ℕ → ℕ
count_by w bsn = minus bsn (last_acknowledged w)

-- The first n messages are acknowledged and no longer kept. Those of them that were still to be
-- repeated no longer are.
abbrev pub without : Window → ℕ → Window
without w n = record w {
  kept = drop n w.kept;
  sent = w.sent - n;
  first = plus w.first n;
  again = min w.again (w.sent - n);
  turn = w.turn - n;
}

-- A backward indicator bit unlike the forward one requests retransmission.
abbrev pub asked : Mode → ℕ → Window → Window
asked Basic bib w = if bib == w.fib then w else record w { fib = 1 - w.fib; again = w.sent }
asked Cyclic bib w = w

-- after a unit whose backward number is accepted
abbrev pub after_back : Window → ℕ → ℕ → Window
after_back w bsn bib = asked w.mode bib (without w (count_by w bsn))

-- The messages after the one that the far side accepted last; if that is not known, those not sent
-- since both directions last started over.
abbrev pub retrieved : Window → Option ℕ → List Msu
retrieved w (Some fsn) = drop (count_by w fsn) w.kept
retrieved w None = waiting w

-- how many messages such a retrieval acknowledges
abbrev pub count_known : Window → Option ℕ → ℕ
count_known w (Some fsn) = count_by w fsn
count_known w None = 0

-- An empty window, whose numbers continue after the last acknowledged message.
abbrev pub emptied : Window → Option ℕ → Window
emptied w fsn = record w {
  kept = [];
  sent = 0;
  first = plus w.first (count_known w fsn);
  again = 0;
  forced = false;
  turn = 0;
}

-- The waiting message at an index is removed.
abbrev pub without_at : Window → ℕ → Window
without_at w i = record w { kept = take i w.kept ++ drop (i + 1) w.kept }

-- Everything kept waits again, the unacknowledged ones first, and the numbers are at their start.
abbrev pub refreshed : Window → Window
refreshed w = record w { sent = 0; first = 0; fib = 1; again = 0; forced = false; turn = 0 }
