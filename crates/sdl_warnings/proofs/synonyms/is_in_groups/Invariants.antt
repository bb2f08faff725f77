use Rattle.std.proofs.Common.{map, take, ◌≡◌}
use Rattle.std.specs.List.{flat_map}
use Rattle.sdl_ast.specs.Views.{group_of}
use Rattle.sdl_tables.specs.Names.{is_in}
use Rattle.sdl_warnings.proofs.synonyms.is_in_groups.Given as goal

abbrev pub invariant-loop-group : goal.invariant-loop-group
invariant-loop-group l =
    l.any ≡ is_in (flat_map (λ g. g.names) (map group_of (take l.group-index l.groups))) l.name
