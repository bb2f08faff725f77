-- What a receiver knows of the far side's messages, and the effect of a further unit (Q.703:
-- acceptance of message signal units, positive and negative acknowledgement).
use Rattle.std.specs.Prelude.{ℕ, ◌-◌, ◌<◌, ◌==◌, ◌&&◌, Bool, true, false, if◌then◌else◌, Result, Ok}
use Rattle.std.specs.Prelude.{Err}
use Rattle.resend_store.specs.declared.messages.Mode.{Mode}
use Rattle.resend_store.specs.declared.messages.Mode.TheVariants.{Basic, Cyclic}
use Rattle.resend_store.specs.declared.messages.Verdict.{Verdict}
use Rattle.resend_store.specs.declared.messages.Verdict.TheVariants.{Accept, Discard, Nack}
use Rattle.resend_store.specs.declared.refusals.UnitError.{UnitError}
use Rattle.resend_store.specs.declared.refusals.UnitError.TheVariants.{BadIndicator}
use Rattle.resend_store.specs.Numbers.{plus}

pub record Intake : Type 0 where
  pub mode : Mode
  -- the forward sequence number that was accepted last
  pub last : ℕ
  -- the backward indicator bit to send
  pub bib : ℕ
  -- whether a negative acknowledgement is out and the far side hasn't begun to repeat
  pub nack_out : Bool

-- the invariant of an intake
pub record IsIntake (r : Intake) : Type 0 where
  pub number : r.last < 128
  pub indicator : r.bib < 2

-- nothing accepted yet
abbrev pub first_intake : Mode → Intake
first_intake mode = record { mode = mode; last = 127; bib = 1; nack_out = false }

-- The result of a unit's head: the verdict or the refusal, and the intake after it.
pub record Hearing : Type 0 where
  pub verdict : Result Verdict UnitError
  pub known : Intake

-- the next message in turn is accepted
abbrev pub accepts : Intake → Hearing
accepts r = record { verdict = Ok Accept; known = record r { last = plus r.last 1 } }

-- the unit is discarded
abbrev pub discards : Intake → Hearing
discards r = record { verdict = Ok Discard; known = r }

-- a message was lost: the backward indicator is inverted
abbrev pub refuses : Intake → Hearing
refuses r = record { verdict = Ok Nack; known = record r { bib = 1 - r.bib; nack_out = true } }

-- Whether a unit carries the message that comes next.
abbrev pub is_in_turn : Intake → ℕ → Bool → Bool
is_in_turn r fsn has_msu = has_msu && (fsn == plus r.last 1)

-- A unit whose forward indicator agrees with the backward indicator to send.
abbrev pub hear_agreeing : Intake → ℕ → Bool → Hearing
hear_agreeing r fsn has_msu =
    if is_in_turn r fsn has_msu then accepts r
    else (if fsn == r.last then discards r else refuses r)

-- A unit whose forward indicator doesn't agree: expected while a negative acknowledgement is out,
-- otherwise a fault.
abbrev pub hear_unlike : Intake → Hearing
hear_unlike r =
    if r.nack_out then discards r else record { verdict = Err BadIndicator; known = r }

abbrev pub hear_by : Mode → Intake → ℕ → ℕ → Bool → Hearing
hear_by Basic r fsn fib has_msu =
    if fib == r.bib then hear_agreeing (record r { nack_out = false }) fsn has_msu
    else hear_unlike r
hear_by Cyclic r fsn fib has_msu = if is_in_turn r fsn has_msu then accepts r else discards r

-- The result of a unit while no message may be accepted. It is judged by its forward indicator as
-- always, and then discarded. The number accepted last, the indicator to send and the outstanding
-- request stay.
abbrev pub hear_aside : Mode → Intake → ℕ → Hearing
hear_aside Basic r fib = if fib == r.bib then discards r else hear_unlike r
hear_aside Cyclic r fib = discards r

-- The result of a unit.
abbrev pub hear : Intake → ℕ → ℕ → Bool → Hearing
hear r fsn fib has_msu = hear_by r.mode r fsn fib has_msu
