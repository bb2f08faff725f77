use Rattle.std.proofs.Common.{List}
use Rattle.sdl_ast.specs.Views.{block_of, process_of}
use Rattle.sdl_sound.specs.Actions.{Origin}
use Rattle.sdl_rules.specs.Backs.{Learns}
use Rattle.sdl_rules.proofs.known.learn_sendings.Given as goal

abbrev pub invariant-loop-sending : goal.invariant-loop-sending
invariant-loop-sending l =
    (os : List Origin) → Learns (block_of l.block) (process_of l.process) l.initial.table l.initial.known os → Learns (block_of l.block) (process_of l.process) l.table l.known os
