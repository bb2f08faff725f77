use Rattle.std.proofs.Common.{◌≡◌, map, take}
use Rattle.sdl_compile.specs.Routes.{signal_numbered}
use Rattle.sdl_compile.proofs.block.signal_numbers.Given as goal

abbrev pub invariant-loop-id : goal.invariant-loop-id
invariant-loop-id l = l.numbers.items ≡ map (signal_numbered l.signals) (take l.id-index l.ids)
