use Rattle.std.proofs.Common.{◌≡◌, map, take}
use Rattle.sdl_ast.specs.Views.{state_of}
use Rattle.sdl_rules.specs.Expansion.{expanded_state}
use Rattle.sdl_rules.specs.Views.{sight_of}
use Rattle.sdl_rules.proofs.processes.expand_states.Given as goal

abbrev pub invariant-loop-part : goal.invariant-loop-part
invariant-loop-part l =
    map state_of l.copies.items ≡ map (expanded_state (sight_of l.sight)) (map state_of (take l.part-index l.given))
