use Rattle.sdl_compile.specs.Counts.{measured}
use Rattle.sdl_compile.proofs.Reckoned.{Filled}
use Rattle.sdl_compile.proofs.totals.known_counts.Given as goal

abbrev pub invariant-loop-number : goal.invariant-loop-number
invariant-loop-number l = Filled l.layout.targets.now (measured l.counted l.measures) l.layout.numbers.now l.known.items l.length l.number-index
