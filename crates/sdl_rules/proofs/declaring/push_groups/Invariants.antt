use Rattle.std.proofs.Common.{◌≡◌, ◌++◌, map, take}
use Rattle.std.specs.List.{flat_map}
use Rattle.sdl_ast.specs.Views.{group_of}
use Rattle.sdl_rules.proofs.declaring.push_groups.Given as goal

abbrev pub invariant-loop-group : goal.invariant-loop-group
invariant-loop-group l =
    l.names.items ≡ l.initial.names.items ++ flat_map (λ g. g.names) (map group_of (take l.group-index l.groups))
