-- The rows pushed so far, and those still to push.
use Rattle.std.proofs.Common.{◌≡◌, ◌++◌, drop, map}
use Rattle.sdl_ast.specs.Views.{process_of}
use Rattle.script_covered.specs.Covered.{known_turns}
use Rattle.script_covered.specs.Lcov.{row_of, all_rows}
use Rattle.script_covered.proofs.rows.push_processes_rows.Given as goal

abbrev pub invariant-loop-owner : goal.invariant-loop-owner
invariant-loop-owner l =
    map row_of l.rows.items ++ all_rows (known_turns l.turns.turns.items) l.signals l.owner (map process_of (drop l.owner l.processes))
    ≡ map row_of l.initial.rows.items ++ all_rows (known_turns l.turns.turns.items) l.signals 0 (map process_of l.processes)
