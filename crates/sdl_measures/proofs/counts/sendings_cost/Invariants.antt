use Rattle.std.proofs.Common.{◌≡◌, map, take, min}
use Rattle.sdl_ast.specs.Views.{sending_of}
use Rattle.sdl_sound.specs.Longest.{sendings_cost}
use Rattle.sdl_measures.proofs.counts.sendings_cost.Given as goal

abbrev pub invariant-loop-sending : goal.invariant-loop-sending
invariant-loop-sending l =
    l.total ≡ min (sendings_cost (map sending_of (take l.sending-index l.sendings))) 4294967295
