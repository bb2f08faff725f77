use Rattle.std.proofs.Common.{◌≡◌, map, take}
use Rattle.sdl_ast.specs.Views.{sending_of}
use Rattle.sdl_emit.proofs.copies.copy_sendings.Given as goal

abbrev pub invariant-loop-sending : goal.invariant-loop-sending
invariant-loop-sending l = map sending_of l.copies.items ≡ map sending_of (take l.sending-index l.given)
