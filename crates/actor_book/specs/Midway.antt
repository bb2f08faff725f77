-- A schedule that is partly done.
use Rattle.std.specs.Prelude.{◌≡◌, ◌≤◌, ◌+◌, ◌++◌, ℕ, List, length, map}
use Rattle.actor_machine.specs.Step.{Says}
use Rattle.actor_machine.specs.Ledger.{Ledger, runs}
use Rattle.actor_machine.specs.declared.reply.Reply.{Reply}
use Rattle.actor_book.specs.Schedules.{scheduled_by, answers_on}
use Rattle.actor_book.specs.declared.schedule.Scheduled.{Scheduled}

-- some steps were made, with their answers, and there is room for those of the others
pub record IsMidway (first now : Ledger) (before rs : List Reply) (capacity : ℕ)
    (steps left : List Scheduled) : Type 0 where
  pub made : List Scheduled
  pub are : steps ≡ made ++ left
  pub set : now.set ≡ first.set
  pub book : now ≡ scheduled_by (runs first.set) first made
  pub replies : map Says rs ≡ map Says before ++ answers_on (runs first.set) first made
  pub room : length rs + length left ≤ capacity
