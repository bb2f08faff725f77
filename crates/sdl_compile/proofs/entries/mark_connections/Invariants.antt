use Rattle.std.proofs.Common.{◌≡◌, ◌++◌, drop}
use Rattle.sdl_emit.specs.Scopes.{scope_in}
use Rattle.sdl_compile.specs.Facts.{connections_sets}
use Rattle.sdl_compile.proofs.entries.mark_connections.Given as goal

abbrev pub invariant-loop-number : goal.invariant-loop-number
invariant-loop-number l = l.sets.items ++ connections_sets (scope_in l.names) l.entries (drop l.number-index l.numbers) ≡ l.initial.sets.items ++ connections_sets (scope_in l.names) l.entries l.numbers
