use Rattle.std.proofs.Common.{◌≡◌, map, take}
use Rattle.sdl_ast.specs.Views.{group_of}
use Rattle.sdl_rules.specs.Expansion.{expanded_group}
use Rattle.sdl_rules.specs.Views.{sight_of}
use Rattle.sdl_rules.proofs.processes.expand_groups.Given as goal

abbrev pub invariant-loop-group : goal.invariant-loop-group
invariant-loop-group l =
    map group_of l.copies.items ≡ map (expanded_group (sight_of l.sight)) (map group_of (take l.group-index l.given))
