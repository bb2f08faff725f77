-- The rows pushed so far, and those still to push.
use Rattle.std.proofs.Common.{◌≡◌, ◌++◌, drop, map}
use Rattle.sdl_ast.specs.Views.{process_of}
use Rattle.sdl_tables.specs.Rows.{row_input}
use Rattle.script_covered.specs.Covered.{known_turns}
use Rattle.script_covered.specs.Lcov.{row_of, state_rows}
use Rattle.script_covered.proofs.rows.push_state_rows.Given as goal

abbrev pub invariant-loop-number : goal.invariant-loop-number
invariant-loop-number l =
    map row_of l.rows.items ++ state_rows (known_turns l.turns.turns.items) l.signals (process_of l.process) l.place.owner l.place.state l.number (map row_input (drop l.number l.inputs))
    ≡ map row_of l.initial.rows.items ++ state_rows (known_turns l.turns.turns.items) l.signals (process_of l.process) l.place.owner l.place.state 0 (map row_input l.inputs)
