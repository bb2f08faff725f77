use Rattle.std.proofs.Common.{◌≡◌, ◌<◌, length, map, take}
use Rattle.std.specs.Prelude.{All}
use Rattle.sdl_ast.specs.Views.{process_of, input_of}
use Rattle.sdl_rules.specs.Reached.{joining_of, input_joining}
use Rattle.sdl_rules.proofs.reaching.find_joinings.Given as goal

abbrev pub invariant-loop-input : goal.invariant-loop-input
invariant-loop-input l =
    let p = process_of l.process in record {
      joinings : map joining_of l.joinings.items ≡ map (input_joining l.table.names p) (map (λ i. input_of i.now) (take l.input-index l.input-items));
      within : All (λ j. All (λ n. n < length p.connections) j.targets.items) l.joinings.items;
    }
