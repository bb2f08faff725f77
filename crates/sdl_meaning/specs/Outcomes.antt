-- The scope of a transition, the end of a walk, the outcome of a part of a transition, and names
-- (Z.100, transitions).
use Rattle.std.specs.Prelude.{ℕ, Option}
use Rattle.sdl_ast.specs.declared.expression.Identifier.{Identifier}
use Rattle.sdl_ast.specs.Plain.{PlainProcess, PlainBlock}
use Rattle.turn_code.specs.declared.machine.End as code_end
use Rattle.turn_code.specs.declared.trouble.Trouble.{Trouble}
use Rattle.turn_code.specs.Run.{Progress}
use Rattle.sdl_tables.specs.Names.{number_of, variable_names, states_of, timers_of, connector_names}
use Rattle.sdl_tables.specs.Names.{signal_names}

-- The scope of a transition: its names are those of its process and of its block, and their numbers
-- are the places there.
pub record Scope : Type 0 where
  pub block : PlainBlock
  pub process : PlainProcess

-- The end of a walk: the end of the transition, or trouble that leaves it stuck.
pub data Ending : Type 0 where
  at_end : code_end.End → Ending
  in_trouble : Trouble → Ending

-- The outcome of a part of a transition: the walk goes on with a value, or is over. It carries what
-- was done so far. Its count is the cost of the walk. Each number, truth value, variable, operator,
-- assignment, signal sent, SET and RESET costs 1; a divisor costs nothing; each place of INPUT
-- costs 2; the end costs 1. A DECISION costs its question and its tests, then its body, and 1 if
-- the body goes on. An Integer one tests each range up to the first that holds, or all and 1 for
-- ELSE; the test of a Boolean one costs 1.
pub data Outcome (A : Type 0) : Type 0 where
  goes_on : A → Progress → Outcome A
  over : Ending → Progress → Outcome A

abbrev pub then_do : {A B : Type 0} → Outcome A → (A → Progress → Outcome B) → Outcome B
then_do (goes_on x s) f = f x s
then_do (over e s) f = over e s

-- ---- names

abbrev pub variable_at : Scope → Identifier → Option ℕ
variable_at c n = number_of (variable_names c.process) n.name

abbrev pub state_at : Scope → Identifier → Option ℕ
state_at c n = number_of (states_of c.process) n.name

abbrev pub timer_at : Scope → Identifier → Option ℕ
timer_at c n = number_of (timers_of c.process) n.name

abbrev pub connector_at : Scope → Identifier → Option ℕ
connector_at c n = number_of (connector_names c.process) n.name

abbrev pub signal_at : Scope → Identifier → Option ℕ
signal_at c n = number_of (signal_names c.block) n.name
