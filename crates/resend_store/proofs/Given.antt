-- A call to send and the waiting messages: it sends the first of them for the first time, or leaves them.
use Rattle.std.proofs.Common.{◌≡◌, ℕ, ◌+◌, ◌<◌, Bool, true, false, if◌then◌else◌, List, length, nat_lt, refl}
use Rattle.std.specs.Prelude.{slice_get}
use Rattle.resend_store.specs.declared.messages.Mode.{Mode}
use Rattle.resend_store.specs.declared.messages.Mode.TheVariants.{Basic, Cyclic}
use Rattle.resend_store.specs.declared.messages.Msu.{Msu}
use Rattle.resend_store.specs.Numbers.{plus}
use Rattle.resend_store.specs.Window.{Window, Sending, may_send, at_limit, round, repeats, after_new, sends_new, cycles, fill_in, next_basic, next_ordinary, next_forced, next_by, next}
use Rattle.resend_store.proofs.WindowTests.{may_waits as may_send_waits}
use Rattle.plain_laws.proofs.Truths.{by_test}

-- the result for a window with these messages, so many of them sent, the first with this number
pub data NextIs (kept : List Msu) (sent first : ℕ) (s : Sending) : Type 0 where
  again : s.left.kept ≡ kept → s.left.sent ≡ sent → s.left.first ≡ first → NextIs kept sent first s
  new : sent < length kept → s.unit.msu ≡ slice_get kept sent → s.unit.fsn ≡ plus first sent → s.left.kept ≡ kept → s.left.sent ≡ sent + 1 → s.left.first ≡ first → NextIs kept sent first s

-- forced retransmission changes none of these
pub record SameNumbers (v w : Window) : Type 0 where
  pub kept : v.kept ≡ w.kept
  pub sent : v.sent ≡ w.sent
  pub first : v.first ≡ w.first

round_or_not : (b : Bool) (w : Window) → SameNumbers (if b then round w else w) w
round_or_not true w = record { kept = refl; sent = refl; first = refl }
round_or_not false w = record { kept = refl; sent = refl; first = refl }

after_new_same : (m : Mode) (w : Window) → SameNumbers (after_new m w) w
after_new_same Basic w = record { kept = refl; sent = refl; first = refl }
after_new_same Cyclic w = round_or_not (at_limit w) w

sends_new_is : (w : Window) → may_send w ≡ true → NextIs w.kept w.sent w.first (sends_new w)
sends_new_is w h =
    let same = after_new_same w.mode (record w { sent = w.sent + 1 }) in
    new (may_send_waits w h) refl refl same.kept same.sent same.first

basic_is : (w : Window) → NextIs w.kept w.sent w.first (next_basic w)
basic_is w =
    let P : Sending → Type 0 = λ s. NextIs w.kept w.sent w.first s in
    by_test P (nat_lt 0 w.again) (repeats w) (if may_send w then sends_new w else fill_in w) (λ _. again refl refl refl)
    (λ _. by_test P (may_send w) (sends_new w) (fill_in w) (sends_new_is w) (λ _. again refl refl refl))

ordinary_is : (w : Window) → NextIs w.kept w.sent w.first (next_ordinary w)
ordinary_is w =
    let P : Sending → Type 0 = λ s. NextIs w.kept w.sent w.first s in
    by_test P (may_send w) (sends_new w) (if nat_lt 0 w.sent then cycles w else fill_in w) (sends_new_is w)
    (λ _. by_test P (nat_lt 0 w.sent) (cycles w) (fill_in w) (λ _. again refl refl refl) (λ _. again refl refl refl))

forced_is : (w : Window) → NextIs w.kept w.sent w.first (next_forced w)
forced_is w =
    let P : Sending → Type 0 = λ s. NextIs w.kept w.sent w.first s in
    let rest : Sending = if at_limit w then repeats (round w) else next_ordinary (record w { forced = false }) in
    by_test P (nat_lt 0 w.again) (repeats w) rest (λ _. again refl refl refl)
    (λ _. by_test P (at_limit w) (repeats (round w)) (next_ordinary (record w { forced = false })) (λ _. again refl refl refl)
    (λ _. ordinary_is (record w { forced = false })))

by_mode_is : (m : Mode) (w : Window) → NextIs w.kept w.sent w.first (next_by m w)
by_mode_is Basic w = basic_is w
by_mode_is Cyclic w =
    let P : Sending → Type 0 = λ s. NextIs w.kept w.sent w.first s in
    by_test P w.forced (next_forced w) (next_ordinary w) (λ _. forced_is w) (λ _. ordinary_is w)

pub next_is : (w : Window) → NextIs w.kept w.sent w.first (next w)
next_is w = by_mode_is w.mode w
