use Rattle.std.proofs.Common.{length, map, take, ◌++◌, ◌<◌, ◌≡◌}
use Rattle.sdl_ast.specs.Views.{input_of, process_of}
use Rattle.sdl_sound.specs.Orders.{targets_of}
use Rattle.sdl_sound.specs.Statements.{joins_of}
use Rattle.std.specs.List.{flat_map}
use Rattle.std.specs.Prelude.{All}
use Rattle.sdl_warnings.proofs.connections.push_targets.Given as goal

abbrev pub invariant-loop-input : goal.invariant-loop-input
invariant-loop-input l =
    (l.targets.items ≡ l.initial.targets.items ++ targets_of (process_of l.process) (flat_map (λ i. joins_of i.text) (map (λ i. input_of i.now) (take l.input-index l.inputs))))
    × All (λ n. n < length (process_of l.process).connections) l.targets.items
