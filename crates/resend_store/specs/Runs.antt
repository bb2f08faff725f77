-- Whole runs of a sender: the messages that go out for the first time over a list of calls, and
-- their numbers.
use Rattle.std.specs.Prelude.{◌≡◌, ℕ, ◌≤◌, zero, suc, nat_lt, nat_le, Bool, true, false}
use Rattle.std.specs.Prelude.{if◌then◌else◌, List, [], ◌∷◌, ◌++◌, length, map, Option, Some, None}
use Rattle.resend_store.specs.declared.messages.Msu.{Msu}
use Rattle.resend_store.specs.declared.messages.Mode.{Mode}
use Rattle.resend_store.specs.declared.messages.RoundLimits.{RoundLimits}
use Rattle.resend_store.specs.declared.messages.Outgoing.{Outgoing}
use Rattle.resend_store.specs.Limits.{MOST_WAITING, MOST_KEPT}
use Rattle.resend_store.specs.Numbers.{plus}
use Rattle.resend_store.specs.Window.{Window, unacknowledged, waiting, last_acknowledged}
use Rattle.resend_store.specs.Window.{start_within, with_put, next, count_by, after_back}
use Rattle.resend_store.specs.Window.{count_known, emptied, refreshed}

-- A call of a sender. A call that fails because memory runs out changes nothing and isn't listed.
pub data Call : Type 0 where
  put : Msu → Call
  put_diverted : Msu → Call
  next_unit : Call
  on_back : ℕ → ℕ → Call
  retrieve : Option ℕ → Call
  fresh : Call

-- whether the call isn't refused
abbrev pub is_accepted : Window → Call → Bool
is_accepted w (put m) = nat_lt (length (waiting w)) MOST_WAITING
is_accepted w (put_diverted m) = nat_lt (length w.kept) MOST_KEPT
is_accepted w next_unit = true
is_accepted w (on_back bsn bib) = nat_le (count_by w bsn) w.sent
is_accepted w (retrieve fsn) = nat_le (count_known w fsn) w.sent
is_accepted w fresh = true

-- the window after an accepted call
abbrev pub accepted : Window → Call → Window
accepted w (put m) = with_put w m
accepted w (put_diverted m) = with_put w m
accepted w next_unit = (next w).left
accepted w (on_back bsn bib) = after_back w bsn bib
accepted w (retrieve fsn) = emptied w fsn
accepted w fresh = refreshed w

-- the window after a call: a refusal changes nothing
abbrev pub step : Window → Call → Window
step w call = if is_accepted w call then accepted w call else w

-- the window after calls
abbrev pub after : Window → List Call → Window
after w [] = w
after w (call ∷ calls) = after (step w call) calls

-- the message that a call adds, if it is accepted
abbrev pub message_of : Call → List Msu
message_of (put m) = m ∷ []
message_of (put_diverted m) = m ∷ []
message_of next_unit = []
message_of (on_back bsn bib) = []
message_of (retrieve fsn) = []
message_of fresh = []

abbrev pub brought : Window → Call → List Msu
brought w call = if is_accepted w call then message_of call else []

-- the unit of a call that sends a message for the first time: after it one more message is sent
abbrev pub newly_given : Window → Call → List Outgoing
newly_given w (put m) = []
newly_given w (put_diverted m) = []
newly_given w next_unit = if nat_lt w.sent (next w).left.sent then (next w).unit ∷ [] else []
newly_given w (on_back bsn bib) = []
newly_given w (retrieve fsn) = []
newly_given w fresh = []

-- these over a list of calls
abbrev pub all_brought : Window → List Call → List Msu
all_brought w [] = []
all_brought w (call ∷ calls) = brought w call ++ all_brought (step w call) calls

abbrev pub all_given : Window → List Call → List Outgoing
all_given w [] = []
all_given w (call ∷ calls) = newly_given w call ++ all_given (step w call) calls

-- calls that restart the count of messages, if they are accepted
abbrev pub is_beginning : Call → Bool
is_beginning (put m) = false
is_beginning (put_diverted m) = false
is_beginning next_unit = false
is_beginning (on_back bsn bib) = false
is_beginning (retrieve fsn) = true
is_beginning fresh = true

-- none of the calls is accepted and restarts the count
abbrev pub NoBeginning : Window → List Call → Type 0
NoBeginning w [] = Unit {0}
NoBeginning w (call ∷ calls) =
    (is_accepted w call ≡ true → is_beginning call ≡ false) × NoBeginning (step w call) calls

-- k numbers from n on, each one after the one before, modulo 128
abbrev pub counted : ℕ → ℕ → List ℕ
counted n zero = []
counted n (suc k) = n ∷ counted (plus n 1) k

-- The sender held these messages and kept w. The new messages that it sends over these calls are,
-- in order and without a gap, a prefix of those held and those put meanwhile. Their numbers rise by
-- one from this number.
pub record InOrder (held : List Msu) (number : ℕ) (w : Window) (calls : List Call) : Type 0 where
  pub unsent : List Msu
  pub order :
      map (λ (u : Outgoing). u.msu) (all_given w calls) ++ map Some unsent
      ≡ map Some (held ++ all_brought w calls)
  pub numbers :
      map (λ (u : Outgoing). u.fsn) (all_given w calls)
      ≡ counted number (length (all_given w calls))

-- the number after the last acknowledged one, after a retrieval with this number
abbrev pub number_after : Window → Option ℕ → ℕ
number_after w (Some fsn) = plus fsn 1
number_after w None = plus (last_acknowledged w) 1

-- New messages go out in order over every list of calls from `new` on: since `new`, since each
-- `fresh`, and since each accepted `retrieve`.
pub record NewInOrder : Type 0 where
  pub since_new :
      (limits : RoundLimits) (mode : Mode) (calls : List Call)
      → NoBeginning (start_within limits mode) calls
      → InOrder [] 0 (start_within limits mode) calls
  pub since_fresh : (limits : RoundLimits) (mode : Mode) (before calls : List Call) →
      let w = after (start_within limits mode) before in
      NoBeginning (refreshed w) calls
      → InOrder (unacknowledged w ++ waiting w) 0 (refreshed w) calls
  pub since_retrieve :
      (limits : RoundLimits) (mode : Mode) (before : List Call) (fsn : Option ℕ)
      (calls : List Call) →
      let w = after (start_within limits mode) before in
      count_known w fsn ≤ w.sent → NoBeginning (emptied w fsn) calls
      → InOrder [] (number_after w fsn) (emptied w fsn) calls
