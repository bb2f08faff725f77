-- The rows pushed so far, and those still to push.
use Rattle.std.proofs.Common.{◌≡◌, ◌++◌, drop, map}
use Rattle.sdl_ast.specs.Views.{process_of}
use Rattle.sdl_tables.specs.Rows.{rows_inputs}
use Rattle.script_covered.specs.Covered.{known_turns}
use Rattle.script_covered.specs.Lcov.{row_of, states_rows}
use Rattle.script_covered.proofs.rows.push_states_rows.Given as goal

abbrev pub invariant-loop-state : goal.invariant-loop-state
invariant-loop-state l =
    map row_of l.rows.items ++ states_rows (known_turns l.turns.turns.items) l.signals (process_of l.process) l.owner l.state (map rows_inputs (drop l.state l.inputs))
    ≡ map row_of l.initial.rows.items ++ states_rows (known_turns l.turns.turns.items) l.signals (process_of l.process) l.owner 0 (map rows_inputs l.inputs)
