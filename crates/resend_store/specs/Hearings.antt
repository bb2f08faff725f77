-- Whole runs of a receiver: the units that it accepts out of a list.
use Rattle.std.specs.Prelude.{◌≡◌, ℕ, Bool, true, false, if◌then◌else◌, List, [], ◌∷◌, ◌++◌, length}
use Rattle.std.specs.Prelude.{map, Result, Ok, Err}
use Rattle.resend_store.specs.declared.messages.Mode.{Mode}
use Rattle.resend_store.specs.declared.messages.Verdict.{Verdict}
use Rattle.resend_store.specs.declared.messages.Verdict.TheVariants.{Accept, Discard, Nack}
use Rattle.resend_store.specs.declared.refusals.UnitError.{UnitError}
use Rattle.resend_store.specs.Numbers.{plus}
use Rattle.resend_store.specs.Intake.{Intake, Hearing, first_intake, hear}
use Rattle.resend_store.specs.Runs.{counted}

-- the parts of a unit that a receiver uses
pub record Heard : Type 0 where
  pub fsn : ℕ
  pub fib : ℕ
  pub has_msu : Bool

abbrev pub hear_unit : Intake → Heard → Hearing
hear_unit r u = hear r u.fsn u.fib u.has_msu

abbrev pub is_accept : Result Verdict UnitError → Bool
is_accept (Ok Accept) = true
is_accept (Ok Discard) = false
is_accept (Ok Nack) = false
is_accept (Err fault) = false

-- the accepted units of a list, in order
abbrev pub accepted_units : Intake → List Heard → List Heard
accepted_units r [] = []
accepted_units r (u ∷ us) =
    (if is_accept (hear_unit r u).verdict then u ∷ []
    else []) ++ accepted_units (hear_unit r u).known us

-- Over every list of units, with any numbers and bits, the accepted ones carry messages. Their
-- numbers rise by one modulo 128, from one after the last accepted, which is 0 after `new` and
-- `fresh`.
pub record AcceptsInTurn : Type 0 where
  pub numbers :
      (r : Intake) (us : List Heard)
      → map (λ (u : Heard). u.fsn) (accepted_units r us)
      ≡ counted (plus r.last 1) (length (accepted_units r us))
  pub messages :
      (r : Intake) (us : List Heard)
      → map (λ (u : Heard). u.has_msu) (accepted_units r us)
      ≡ map (λ (u : Heard). true) (accepted_units r us)
  pub from_start :
      (mode : Mode) (us : List Heard)
      → map (λ (u : Heard). u.fsn) (accepted_units (first_intake mode) us)
      ≡ counted 0 (length (accepted_units (first_intake mode) us))
