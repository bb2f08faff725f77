-- The marks pushed so far, and those still to push.
use Rattle.std.proofs.Common.{◌≡◌, ◌++◌, drop, map}
use Rattle.std.specs.List.{flat_map}
use Rattle.sdl_ast.specs.Views.{connection_of}
use Rattle.script_covered.specs.Lcov.{connection_marks}
use Rattle.script_covered.proofs.marks.push_connections.Given as goal

abbrev pub invariant-loop-connection : goal.invariant-loop-connection
invariant-loop-connection l =
    l.marks.items ++ flat_map connection_marks (map connection_of (drop l.connection-index l.connections)) ≡ l.initial.marks.items ++ flat_map connection_marks (map connection_of l.connections)
