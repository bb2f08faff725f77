use Rattle.std.proofs.Common.{map, take}
use Rattle.std.specs.List.{flat_map}
use Rattle.sdl_sound.specs.Actions.{in_input}
use Rattle.sdl_rules.specs.Asked.{asked}
use Rattle.sdl_tables.specs.Scopes.{Marks}
use Rattle.sdl_ast.specs.Views.{block_of, input_of, process_of}
use Rattle.sdl_rules.proofs.statements.in_inputs.Given as goal

abbrev pub invariant-loop-input : goal.invariant-loop-input
invariant-loop-input l =
    Marks l.place (flat_map (in_input (asked l.rule (block_of l.block) (process_of l.process))) (map (λ i. input_of i.now) (take l.input-index l.inputs)))
