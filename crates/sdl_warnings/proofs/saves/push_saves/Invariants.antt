use Rattle.std.proofs.Common.{map, take, ◌++◌, ◌≡◌}
use Rattle.sdl_ast.specs.Views.{process_of, state_of}
use Rattle.sdl_warnings.specs.Warned.{vain_in_part}
use Rattle.std.specs.List.{flat_map}
use Rattle.sdl_warnings.proofs.saves.push_saves.Given as goal

abbrev pub invariant-loop-part : goal.invariant-loop-part
invariant-loop-part l =
    l.found.items ≡ l.initial.found.items ++ flat_map (vain_in_part (process_of l.standing.process.now)) (map state_of (take l.part-index l.parts))
