-- The answers of a set to questions by number.
use Rattle.std.specs.Prelude.{ℕ, Bool, false, eqb, position, Option}
use Rattle.turn_code.specs.declared.draft.Draft.{Draft}
use Rattle.turn_code.specs.declared.draft.DraftInput.{DraftInput}
use Rattle.turn_code.specs.declared.draft.Trigger.{Trigger}
use Rattle.turn_code.specs.declared.draft.Trigger.TheVariants.{Signal, Timer}
use Rattle.turn_check.specs.Named.{inputs_at}

-- whether both are the same signal, or the same timer
abbrev pub same_trigger : Trigger → Trigger → Bool
same_trigger (Signal m) (Signal n) = eqb m.0 n.0
same_trigger (Signal m) (Timer n) = false
same_trigger (Timer m) (Signal n) = false
same_trigger (Timer m) (Timer n) = eqb m.0 n.0

-- the number of the first input of a state that waits for the trigger
abbrev pub input_for : Draft → ℕ → ℕ → Trigger → Option ℕ
input_for d p q trigger =
    position (λ (x : DraftInput). same_trigger x.trigger trigger) (inputs_at d p q)
