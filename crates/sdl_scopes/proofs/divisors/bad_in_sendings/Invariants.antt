use Rattle.std.proofs.Common.{map, take}
use Rattle.std.specs.List.{flat_map}
use Rattle.sdl_sound.specs.Divisors.{sending_divisors}
use Rattle.sdl_tables.specs.Scopes.{Marks}
use Rattle.sdl_ast.specs.Views.{sending_of}
use Rattle.sdl_scopes.proofs.divisors.bad_in_sendings.Given as goal

abbrev pub invariant-loop-sending : goal.invariant-loop-sending
invariant-loop-sending l =
    Marks l.place (flat_map sending_divisors (map sending_of (take l.sending-index l.sendings)))
