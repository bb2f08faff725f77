use Rattle.std.proofs.Common.{◌≡◌, ◌++◌, drop, map}
use Rattle.sdl_ast.specs.Views.{sending_of}
use Rattle.sdl_compile.specs.Facts.{sendings_sets}
use Rattle.sdl_compile.proofs.sets.mark_sendings.Given as goal

abbrev pub invariant-loop-sending : goal.invariant-loop-sending
invariant-loop-sending l = l.sets.items ++ sendings_sets l.set (map sending_of (drop l.sending-index l.sendings)) ≡ l.initial.sets.items ++ sendings_sets l.set (map sending_of l.sendings)
