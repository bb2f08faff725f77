-- The outcome of a turn from its parts.
use Rattle.std.specs.Prelude.{ℕ, ◌<◌, List, [], ◌∷◌, Option, None}
use Rattle.plain_laws.specs.Limits.{MOST_TIMERS_EACH}
use Rattle.turn_code.specs.Outcome.{Outcome}
use Rattle.turn_code.specs.declared.value.Value.{Value}
use Rattle.turn_code.specs.declared.effect.Effect.{Effect}
use Rattle.turn_code.specs.declared.effect.Effect.TheVariants.{Output, Set, Reset}
use Rattle.turn_code.specs.declared.machine.End.{End}
use Rattle.actor_machine.specs.declared.actor.Actor.{Actor}

abbrev pub outcome_with : End → List (Option Value) → List Effect → ℕ → Outcome
outcome_with e vs es count =
    record { end = e; progress = record { variables = vs; effects = es; count = count } }

-- a timer that an effect names is within the limit of a process
abbrev pub HasTimer : Effect → Type 0
HasTimer (Output s) = Unit {0}
HasTimer (Set t z) = t.0 < MOST_TIMERS_EACH
HasTimer (Reset t) = t.0 < MOST_TIMERS_EACH

abbrev pub HaveTimers : List Effect → Type 0
HaveTimers [] = Unit {0}
HaveTimers (e ∷ es) = HasTimer e × HaveTimers es

-- an actor with these variables, and no turn out
abbrev pub with_variables : List (Option Value) → Actor → Actor
with_variables vs a = record a { variables = record { items = vs }; given = None }
