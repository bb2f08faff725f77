use Rattle.std.proofs.Common.{◌≡◌, map, take}
use Rattle.sdl_compile.proofs.process.compile_timers.Given as goal

abbrev pub invariant-loop-number : goal.invariant-loop-number
invariant-loop-number l = l.timers.items ≡ map (λ id. id.name) (take l.number l.table)
