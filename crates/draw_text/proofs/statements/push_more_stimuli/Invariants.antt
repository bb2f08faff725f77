use Rattle.std.proofs.Common.{◌≡◌, ◌++◌, drop, map}
use Rattle.std.specs.List.{flat_map}
use Rattle.std.specs.Prelude.{codes}
use Rattle.sdl_ast.specs.Views.{block_of, process_of, stimulus_of}
use Rattle.draw_text.specs.Statements.{stimulus_text}
use Rattle.draw_text.proofs.statements.push_more_stimuli.Given as goal

abbrev pub invariant-loop-stimulus : goal.invariant-loop-stimulus
invariant-loop-stimulus l = l.text.items ++ flat_map (λ s. codes ",\n" ++ stimulus_text (block_of l.names.block.now) (process_of l.names.process.now) s) (map stimulus_of (drop l.stimulus-index l.stimuli)) ≡ l.initial.text.items ++ flat_map (λ s. codes ",\n" ++ stimulus_text (block_of l.names.block.now) (process_of l.names.process.now) s) (map stimulus_of l.stimuli)
