-- Each unit that goes out is a fill-in unit or carries one of the messages in the window.
use Rattle.std.proofs.Common.{◌≡◌, ℕ, ◌+◌, ◌-◌, ◌<◌, ◌≤◌, ◌==◌, Bool, true, false, if◌then◌else◌, nat_lt, List, length, refl, arith}
use Rattle.std.specs.Prelude.{None, slice_get}
use Rattle.std.proofs.lemmas.Bool.Decides.{nat_tests}
use Rattle.resend_store.specs.declared.messages.Mode.{Mode}
use Rattle.resend_store.specs.declared.messages.Mode.TheVariants.{Basic, Cyclic}
use Rattle.resend_store.specs.declared.messages.Msu.{Msu}
use Rattle.resend_store.specs.declared.messages.Outgoing.{Outgoing}
use Rattle.resend_store.specs.Numbers.{plus}
use Rattle.resend_store.specs.Window.{Window, Sending, may_send, at_limit, round, repeats, after_new, sends_new, cycles, fill_in, next_basic, next_ordinary, next_forced, next_by, next}
use Rattle.resend_store.proofs.WindowTests.{may_waits, limit_sent}
use Rattle.std.proofs.lemmas.Bool.{ltb-true}
use Rattle.plain_laws.proofs.Truths.{by_test}

-- the bounds of the fields of a window
pub record Fine (w : Window) : Type 0 where
  pub fits : w.sent ≤ length w.kept
  pub narrow : w.sent ≤ 127
  pub again : w.again ≤ w.sent
  pub turn : w.turn ≤ w.sent - 1

-- a unit sent from a window with these messages, the first with this number, so many of them sent
pub data UnitIs (kept : List Msu) (first sent : ℕ) (u : Outgoing) : Type 0 where
  fills : u.msu ≡ None → UnitIs kept first sent u
  carries : (i : ℕ) → i < sent → u.msu ≡ slice_get kept i → u.fsn ≡ plus first i → UnitIs kept first sent u

pub record NextFine (kept : List Msu) (first sent : ℕ) (s : Sending) : Type 0 where
  pub kept_on : s.left.kept ≡ kept
  pub first_on : s.left.first ≡ first
  pub sent_on : sent ≤ s.left.sent
  pub fine : Fine s.left
  pub unit : UnitIs kept first s.left.sent s.unit

may_open : (w : Window) → may_send w ≡ true → w.sent < 127
may_open w h = grind (arith, nat_tests)

fill_fine : (w : Window) → Fine w → NextFine w.kept w.first w.sent (fill_in w)
fill_fine w f = record { kept_on = refl; first_on = refl; sent_on = omega arith; fine = f; unit = fills refl }

repeats_fine : (w : Window) → Fine w → 0 < w.again → NextFine w.kept w.first w.sent (repeats w)
repeats_fine w f some =
    let again = f.again in
    let place : w.sent - w.again < w.sent = omega arith in
    record { kept_on = refl; first_on = refl; sent_on = omega arith; fine = record { fits = f.fits; narrow = f.narrow; turn = f.turn; again = omega arith }; unit = carries (w.sent - w.again) place refl refl }

turn_below : (b : Bool) (n s : ℕ) → (n == s) ≡ b → n ≤ s → (if b then 0 else n) ≤ s - 1
turn_below true n s e h = omega arith
turn_below false n s e h = grind (arith, nat_tests)

cycles_fine : (w : Window) → Fine w → 0 < w.sent → NextFine w.kept w.first w.sent (cycles w)
cycles_fine w f some =
    let turn = f.turn in
    let place : w.turn < w.sent = omega arith in
    record {
      kept_on = refl;
      first_on = refl;
      sent_on = omega arith;
      fine = record { fits = f.fits; narrow = f.narrow; again = f.again; turn = turn_below (w.turn + 1 == w.sent) (w.turn + 1) w.sent refl (omega arith) };
      unit = carries w.turn place refl refl;
    }

round_fine : (w : Window) → Fine w → Fine (round w)
round_fine w f = record { fits = f.fits; narrow = f.narrow; turn = f.turn; again = omega arith }

-- a window that replaces another after a new message
pub record SameFine (v w : Window) : Type 0 where
  pub kept : v.kept ≡ w.kept
  pub first : v.first ≡ w.first
  pub sent : v.sent ≡ w.sent
  pub fine : Fine v

round_or_not : (b : Bool) (w : Window) → Fine w → SameFine (if b then round w else w) w
round_or_not true w f = record { kept = refl; first = refl; sent = refl; fine = round_fine w f }
round_or_not false w f = record { kept = refl; first = refl; sent = refl; fine = f }

after_new_fine : (m : Mode) (w : Window) → Fine w → SameFine (after_new m w) w
after_new_fine Basic w f = record { kept = refl; first = refl; sent = refl; fine = f }
after_new_fine Cyclic w f = round_or_not (at_limit w) w f

one_more : (w : Window) → Fine w → w.sent < length w.kept → w.sent < 127 → Fine (record w { sent = w.sent + 1 })
one_more w f waits open_yet = let again = f.again in let turn = f.turn in record { fits = omega arith; narrow = omega arith; again = omega arith; turn = omega arith }

sends_new_fine : (w : Window) → Fine w → may_send w ≡ true → NextFine w.kept w.first w.sent (sends_new w)
sends_new_fine w f may =
    let v : Window = record w { sent = w.sent + 1 } in
    let same = after_new_fine w.mode v (one_more w f (may_waits w may) (may_open w may)) in
    let sent = same.sent in
    let place : w.sent < (after_new w.mode v).sent = omega arith in
    record { kept_on = same.kept; first_on = same.first; sent_on = omega arith; fine = same.fine; unit = carries w.sent place refl refl }

basic_fine : (w : Window) → Fine w → NextFine w.kept w.first w.sent (next_basic w)
basic_fine w f =
    let P : Sending → Type 0 = λ s. NextFine w.kept w.first w.sent s in
    by_test P (nat_lt 0 w.again) (repeats w) (if may_send w then sends_new w else fill_in w)
    (λ some. repeats_fine w f (ltb-true 0 w.again some))
    (λ _. by_test P (may_send w) (sends_new w) (fill_in w) (sends_new_fine w f) (λ _. fill_fine w f))

ordinary_fine : (w : Window) → Fine w → NextFine w.kept w.first w.sent (next_ordinary w)
ordinary_fine w f =
    let P : Sending → Type 0 = λ s. NextFine w.kept w.first w.sent s in
    by_test P (may_send w) (sends_new w) (if nat_lt 0 w.sent then cycles w else fill_in w) (sends_new_fine w f)
    (λ _. by_test P (nat_lt 0 w.sent) (cycles w) (fill_in w) (λ some. cycles_fine w f (ltb-true 0 w.sent some)) (λ _. fill_fine w f))

forced_fine : (w : Window) → Fine w → NextFine w.kept w.first w.sent (next_forced w)
forced_fine w f =
    let P : Sending → Type 0 = λ s. NextFine w.kept w.first w.sent s in
    let v : Window = record w { forced = false } in
    let f' : Fine v = record { fits = f.fits; narrow = f.narrow; again = f.again; turn = f.turn } in
    by_test P (nat_lt 0 w.again) (repeats w) (if at_limit w then repeats (round w) else next_ordinary v)
    (λ some. repeats_fine w f (ltb-true 0 w.again some))
    (λ _. by_test P (at_limit w) (repeats (round w)) (next_ordinary v)
    (λ full. repeats_fine (round w) (round_fine w f) (limit_sent w.limits w.sent w.kept full)) (λ _. ordinary_fine v f'))

by_mode_fine : (m : Mode) (w : Window) → Fine w → NextFine w.kept w.first w.sent (next_by m w)
by_mode_fine Basic w f = basic_fine w f
by_mode_fine Cyclic w f =
    let P : Sending → Type 0 = λ s. NextFine w.kept w.first w.sent s in
    by_test P w.forced (next_forced w) (next_ordinary w) (λ _. forced_fine w f) (λ _. ordinary_fine w f)

pub next_fine : (w : Window) → Fine w → NextFine w.kept w.first w.sent (next w)
next_fine w f = by_mode_fine w.mode w f
