-- Which calls remove no message held for sending, and which leave the messages waiting to be handed out.
use Rattle.std.proofs.Common.{◌≡◌, ℕ, ℤ, ◌+◌, ◌≤◌, nat_lt, Bool, true, false, Option, Some, None, List, [], length, slice_get, refl, sym, ap, arith}
use Rattle.std.specs.Prelude.{if◌then◌else◌}
use Rattle.resend_store.specs.declared.messages.Msu.{Msu}
use Rattle.resend_store.specs.declared.messages.Mode.{Mode}
use Rattle.resend_store.specs.declared.messages.Mode.TheVariants.{Basic, Cyclic}
use Rattle.resend_store.specs.Window.{Window, Sending, at_limit, round, may_send, repeats, cycles, fill_in, after_new, sends_new, next_basic, next_ordinary, next_forced, next_by, refreshed}
use Rattle.link_transceiver.specs.declared.signals.EnvSignal.{EnvSignal}
use Rattle.link_transceiver.specs.declared.signals.EnvSignal.TheVariants as signal
use Rattle.link_transceiver.specs.declared.signals.LineKind.{LineKind}
use Rattle.link_transceiver.specs.declared.signals.LineKind.TheVariants as kind
use Rattle.link_transceiver.specs.declared.signals.LinkStatus.{LinkStatus}
use Rattle.link_transceiver.specs.Limits.{BUSY_CODE}
use Rattle.link_transceiver.specs.TransceiverState.{TransceiverState, is_held}
use Rattle.link_transceiver.specs.Effects.{effect, renewed, directed, told, sends, kind_named, is_busy_named}
use Rattle.link_transceiver.specs.Going.{Gone, gone, gone_by, gives, status_gone, fill_in_gone, sender_gone}
use Rattle.link_transceiver.specs.Reporting.{reported, message_reported, status_reported}
use Rattle.link_transceiver.specs.Laws.{Loses}

-- a signal leaves the messages held for sending and those waiting to be handed out
sends-sender : (k : Option LineKind) (h : TransceiverState) → (sends k h).sender ≡ h.sender
sends-sender (Some k) h = refl
sends-sender None h = refl

no_more_sent : (w v : Window) → v.sent ≡ w.sent → length {A = Msu} [] + v.sent ≤ w.sent
no_more_sent w v h = omega (arith, h)

sends-messages : (k : Option LineKind) (h : TransceiverState) → (sends k h).messages ≡ h.messages
sends-messages (Some k) h = refl
sends-messages None h = refl

directed-sender : (number : ℤ) (h : TransceiverState) → (directed number h).sender ≡ h.sender
unfolding directed
directed-sender number h = elim (is_busy_named number)
    as (λ b. (if b then record h { busy = true } else sends (kind_named number) h).sender ≡ h.sender)
    [ true ↦ refl | false ↦ sends-sender (kind_named number) h ]

directed-messages : (number : ℤ) (h : TransceiverState) → (directed number h).messages ≡ h.messages
unfolding directed
directed-messages number h = elim (is_busy_named number)
    as (λ b. (if b then record h { busy = true } else sends (kind_named number) h).messages ≡ h.messages)
    [ true ↦ refl | false ↦ sends-messages (kind_named number) h ]

pub same_loses : (w v : Window) → v ≡ w → Loses [] w v
same_loses w v h = record { kept = sym (ap (λ (x : Window). x.kept) h); sent = no_more_sent w v (ap (λ (x : Window). x.sent) h) }

fresh_loses : (w : Window) → Loses [] w (refreshed w)
fresh_loses w = record { kept = refl; sent = omega arith }

pub effect-loses : (s : EnvSignal) (h : TransceiverState) → Loses [] h.sender (effect s h).sender
unfolding effect renewed told
effect-loses signal.Fresh h = fresh_loses h.sender
effect-loses (signal.Take on) h = same_loses h.sender h.sender refl
effect-loses (signal.Deliver on) h = same_loses h.sender h.sender refl
effect-loses (signal.Line number) h = same_loses h.sender (directed number h).sender (directed-sender number h)
effect-loses (signal.Withhold true) h = same_loses h.sender h.sender refl
effect-loses (signal.Withhold false) h = same_loses h.sender h.sender refl
effect-loses signal.InServiceNow h = same_loses h.sender h.sender refl
effect-loses (signal.Down reason) h = same_loses h.sender h.sender refl
effect-loses signal.RemoteOut h = same_loses h.sender h.sender refl
effect-loses signal.RemoteBack h = same_loses h.sender h.sender refl
effect-loses signal.Clear h = same_loses h.sender h.sender refl
effect-loses signal.Cleared h = same_loses h.sender h.sender refl

pub effect-messages : (s : EnvSignal) (h : TransceiverState) → (effect s h).messages ≡ h.messages
unfolding effect renewed told
effect-messages signal.Fresh h = refl
effect-messages (signal.Take on) h = refl
effect-messages (signal.Deliver on) h = refl
effect-messages (signal.Line number) h = directed-messages number h
effect-messages (signal.Withhold true) h = refl
effect-messages (signal.Withhold false) h = refl
effect-messages signal.InServiceNow h = refl
effect-messages (signal.Down reason) h = refl
effect-messages signal.RemoteOut h = refl
effect-messages signal.RemoteBack h = refl
effect-messages signal.Clear h = refl
effect-messages signal.Cleared h = refl

pub kept_if : (b : Bool) (x y : Window) (ms : List Msu) → x.kept ≡ ms → y.kept ≡ ms → (if b then x else y).kept ≡ ms
kept_if true x y ms p q = p
kept_if false x y ms p q = q

left_if : (b : Bool) (x y : Sending) (ms : List Msu) → x.left.kept ≡ ms → y.left.kept ≡ ms → (if b then x else y).left.kept ≡ ms
left_if true x y ms p q = p
left_if false x y ms p q = q

after_new-kept : (m : Mode) (w : Window) → (after_new m w).kept ≡ w.kept
after_new-kept Basic w = refl
after_new-kept Cyclic w = kept_if (at_limit w) (round w) w w.kept refl refl

sends_new-kept : (w : Window) → (sends_new w).left.kept ≡ w.kept
sends_new-kept w = after_new-kept w.mode (record w { sent = w.sent + 1 })

ordinary-kept : (w : Window) → (next_ordinary w).left.kept ≡ w.kept
ordinary-kept w = left_if (may_send w) (sends_new w) (if nat_lt 0 w.sent then cycles w else fill_in w) w.kept (sends_new-kept w)
    (left_if (nat_lt 0 w.sent) (cycles w) (fill_in w) w.kept refl refl)

basic-kept : (w : Window) → (next_basic w).left.kept ≡ w.kept
basic-kept w = left_if (nat_lt 0 w.again) (repeats w) (if may_send w then sends_new w else fill_in w) w.kept refl
    (left_if (may_send w) (sends_new w) (fill_in w) w.kept (sends_new-kept w) refl)

forced-kept : (w : Window) → (next_forced w).left.kept ≡ w.kept
forced-kept w = left_if (nat_lt 0 w.again) (repeats w)
    (if at_limit w then repeats (round w) else next_ordinary (record w { forced = false })) w.kept refl
    (left_if (at_limit w) (repeats (round w)) (next_ordinary (record w { forced = false })) w.kept refl
    (ordinary-kept (record w { forced = false })))

next_by-kept : (m : Mode) (w : Window) → (next_by m w).left.kept ≡ w.kept
next_by-kept Basic w = basic-kept w
next_by-kept Cyclic w = left_if w.forced (next_forced w) (next_ordinary w) w.kept (forced-kept w) (ordinary-kept w)

-- the sender's next unit leaves the messages that it holds
gives-kept : (w : Window) → (gives w).left.kept ≡ w.kept
unfolding gives
gives-kept w = next_by-kept w.mode w

message-kept : (h : TransceiverState) (b : Bool) → (if◌then◌else◌ {A = Gone} b (fill_in_gone h) (sender_gone h (gives h.sender))).transceiver.sender.kept ≡ h.sender.kept
message-kept h true = refl
message-kept h false = gives-kept h.sender

gone_by-kept : (h : TransceiverState) (line : Option LineKind) → (gone_by h line).transceiver.sender.kept ≡ h.sender.kept
gone_by-kept h None = refl
gone_by-kept h (Some (kind.Status code)) = refl
gone_by-kept h (Some kind.FillIn) = refl
gone_by-kept h (Some kind.Messages) = message-kept h (is_held h.hold)

pub gone-kept : (h : TransceiverState) → (gone h).transceiver.sender.kept ≡ h.sender.kept
unfolding gone
gone-kept h = elim h.busy
    as (λ b. (if b then status_gone (record h { busy = false }) BUSY_CODE else gone_by h h.line).transceiver.sender.kept ≡ h.sender.kept)
    [ true ↦ refl | false ↦ gone_by-kept h h.line ]

-- ---- how many count as sent

at_most : (n m : ℕ) → n ≡ m → n ≤ m
at_most n m h = omega (arith, h)

no_more : (n : ℕ) → n ≤ n + 1
no_more n = omega arith

same_if : (b : Bool) (x y : Window) (n : ℕ) → x.sent ≡ n → y.sent ≡ n → (if b then x else y).sent ≡ n
same_if true x y n p q = p
same_if false x y n p q = q

most_if : (b : Bool) (x y : Sending) (n : ℕ) → x.left.sent ≤ n → y.left.sent ≤ n → (if b then x else y).left.sent ≤ n
most_if true x y n p q = p
most_if false x y n p q = q

after_new-sent : (m : Mode) (w : Window) → (after_new m w).sent ≡ w.sent
after_new-sent Basic w = refl
after_new-sent Cyclic w = same_if (at_limit w) (round w) w w.sent refl refl

sends_new-sent : (w : Window) → (sends_new w).left.sent ≤ w.sent + 1
sends_new-sent w = at_most (sends_new w).left.sent (w.sent + 1) (after_new-sent w.mode (record w { sent = w.sent + 1 }))

ordinary-sent : (w : Window) → (next_ordinary w).left.sent ≤ w.sent + 1
ordinary-sent w = most_if (may_send w) (sends_new w) (if nat_lt 0 w.sent then cycles w else fill_in w) (w.sent + 1) (sends_new-sent w)
    (most_if (nat_lt 0 w.sent) (cycles w) (fill_in w) (w.sent + 1) (no_more w.sent) (no_more w.sent))

basic-sent : (w : Window) → (next_basic w).left.sent ≤ w.sent + 1
basic-sent w = most_if (nat_lt 0 w.again) (repeats w) (if may_send w then sends_new w else fill_in w) (w.sent + 1) (no_more w.sent)
    (most_if (may_send w) (sends_new w) (fill_in w) (w.sent + 1) (sends_new-sent w) (no_more w.sent))

forced-sent : (w : Window) → (next_forced w).left.sent ≤ w.sent + 1
forced-sent w = most_if (nat_lt 0 w.again) (repeats w)
    (if at_limit w then repeats (round w) else next_ordinary (record w { forced = false })) (w.sent + 1) (no_more w.sent)
    (most_if (at_limit w) (repeats (round w)) (next_ordinary (record w { forced = false })) (w.sent + 1) (no_more w.sent)
    (ordinary-sent (record w { forced = false })))

next_by-sent : (m : Mode) (w : Window) → (next_by m w).left.sent ≤ w.sent + 1
next_by-sent Basic w = basic-sent w
next_by-sent Cyclic w =
    most_if w.forced (next_forced w) (next_ordinary w) (w.sent + 1) (forced-sent w) (ordinary-sent w)

gives-sent : (w : Window) → (gives w).left.sent ≤ w.sent + 1
unfolding gives
gives-sent w = next_by-sent w.mode w

message-sent : (h : TransceiverState) (b : Bool) → (if◌then◌else◌ {A = Gone} b (fill_in_gone h) (sender_gone h (gives h.sender))).transceiver.sender.sent ≤ h.sender.sent + 1
message-sent h true = no_more h.sender.sent
message-sent h false = gives-sent h.sender

gone_by-sent : (h : TransceiverState) (line : Option LineKind) → (gone_by h line).transceiver.sender.sent ≤ h.sender.sent + 1
gone_by-sent h None = no_more h.sender.sent
gone_by-sent h (Some (kind.Status code)) = no_more h.sender.sent
gone_by-sent h (Some kind.FillIn) = no_more h.sender.sent
gone_by-sent h (Some kind.Messages) = message-sent h (is_held h.hold)

pub gone-sent : (h : TransceiverState) → (gone h).transceiver.sender.sent ≤ h.sender.sent + 1
unfolding gone
gone-sent h = elim h.busy
    as (λ b. (if b then status_gone (record h { busy = false }) BUSY_CODE else gone_by h h.line).transceiver.sender.sent ≤ h.sender.sent + 1)
    [ true ↦ no_more h.sender.sent | false ↦ gone_by-sent h h.line ]

-- ---- messages waiting to be handed out

message-messages : (h : TransceiverState) (b : Bool) → (if◌then◌else◌ {A = Gone} b (fill_in_gone h) (sender_gone h (gives h.sender))).transceiver.messages ≡ h.messages
message-messages h true = refl
message-messages h false = refl

gone_by-messages : (h : TransceiverState) (line : Option LineKind) → (gone_by h line).transceiver.messages ≡ h.messages
gone_by-messages h None = refl
gone_by-messages h (Some (kind.Status code)) = refl
gone_by-messages h (Some kind.FillIn) = refl
gone_by-messages h (Some kind.Messages) = message-messages h (is_held h.hold)

pub gone-messages : (h : TransceiverState) → (gone h).transceiver.messages ≡ h.messages
unfolding gone
gone-messages h = elim h.busy
    as (λ b. (if b then status_gone (record h { busy = false }) BUSY_CODE else gone_by h h.line).transceiver.messages ≡ h.messages)
    [ true ↦ refl | false ↦ gone_by-messages h h.line ]

status_reported-sender : (h : TransceiverState) (o : Option LinkStatus) → (status_reported h o).transceiver.sender ≡ h.sender
status_reported-sender h (Some status) = refl
status_reported-sender h None = refl

message_reported-sender : (h : TransceiverState) (o : Option Msu) → (message_reported h o).transceiver.sender ≡ h.sender
message_reported-sender h (Some msu) = refl
message_reported-sender h None = status_reported-sender h (slice_get h.statuses 0)

pub reported-sender : (h : TransceiverState) → (reported h).transceiver.sender ≡ h.sender
unfolding reported
reported-sender h = message_reported-sender h (slice_get h.messages 0)
