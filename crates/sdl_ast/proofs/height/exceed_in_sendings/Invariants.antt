use Rattle.std.proofs.Common.{◌≡◌, map, drop}
use Rattle.std.specs.Prelude.{nat_lt}
use Rattle.sdl_ast.specs.Heights.{highest, sending_height}
use Rattle.sdl_ast.specs.Views.{sending_of}
use Rattle.sdl_ast.proofs.height.exceed_in_sendings.Given as goal

abbrev pub invariant-loop-sending : goal.invariant-loop-sending
invariant-loop-sending l = nat_lt l.limit (highest sending_height (map sending_of l.sendings)) ≡ nat_lt l.limit (highest sending_height (map sending_of (drop l.sending-index l.sendings)))
