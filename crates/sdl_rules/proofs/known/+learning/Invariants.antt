use Rattle.std.proofs.Common.{List}
use Rattle.sdl_ast.specs.Views.{block_of, process_of}
use Rattle.sdl_sound.specs.Actions.{Origin}
use Rattle.sdl_rules.specs.Backs.{Learns}
use Rattle.sdl_rules.proofs.known.+learning.Given as goal

abbrev pub invariant-learn_transition-loop-statement : goal.invariant-learn_transition-loop-statement
invariant-learn_transition-loop-statement l =
    (os : List Origin) → Learns (block_of l.block) (process_of l.process) l.initial.table l.initial.known os → Learns (block_of l.block) (process_of l.process) l.table l.known os

abbrev pub invariant-learn_decision-loop-answer : goal.invariant-learn_decision-loop-answer
invariant-learn_decision-loop-answer l =
    (os : List Origin) → Learns (block_of l.block) (process_of l.process) l.initial.table l.initial.known os → Learns (block_of l.block) (process_of l.process) l.table l.known os
