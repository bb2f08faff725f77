use Rattle.std.proofs.Common.{map, take}
use Rattle.sdl_ast.specs.Views.{connection_of}
use Rattle.sdl_emit.specs.Trimmed.{AreTrimmed}
use Rattle.sdl_emit.proofs.trimmed.trim_connections.Given as goal

abbrev pub invariant-loop-connection : goal.invariant-loop-connection
invariant-loop-connection l = AreTrimmed (map connection_of (take l.connection-index l.given)) l.copies.items
