use Rattle.std.proofs.Common.{◌≡◌, min}
use Rattle.sdl_measures.proofs.counts.sendings_effects.Given as goal

abbrev pub invariant-loop-sending : goal.invariant-loop-sending
invariant-loop-sending l = l.total ≡ min l._sending-index 4294967295
