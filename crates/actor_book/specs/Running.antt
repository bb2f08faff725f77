-- A list of events that is partly done.
use Rattle.std.specs.Prelude.{◌≡◌, ◌≤◌, ◌+◌, ◌++◌, ℕ, List, length, map}
use Rattle.actor_machine.specs.Step.{Says}
use Rattle.actor_machine.specs.Ledger.{Ledger, runs, answers_by, after_by}
use Rattle.actor_machine.specs.declared.event.Event.{Event}
use Rattle.actor_machine.specs.declared.reply.Reply.{Reply}

-- the answers so far and those to the remaining events are those to all; the book also comes out
-- the same, and there is room for the answers
pub record IsUnderWay (first now : Ledger) (before rs : List Reply) (capacity : ℕ)
    (events left : List Event) : Type 0 where
  pub set : now.set ≡ first.set
  pub replies :
      map Says rs ++ answers_by (runs first.set) now left
      ≡ map Says before ++ answers_by (runs first.set) first events
  pub book : after_by (runs first.set) now left ≡ after_by (runs first.set) first events
  pub room : length rs + length left ≤ capacity
