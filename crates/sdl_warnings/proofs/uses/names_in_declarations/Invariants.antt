use Rattle.std.proofs.Common.{map, take, ◌≡◌}
use Rattle.std.specs.List.{list_any, flat_map}
use Rattle.sdl_ast.specs.Views.{declaration_of}
use Rattle.sdl_rules.specs.Expansion.{own_synonyms_in}
use Rattle.sdl_warnings.specs.Warned.{value_names}
use Rattle.sdl_warnings.proofs.uses.names_in_declarations.Given as goal

abbrev pub invariant-loop-declaration : goal.invariant-loop-declaration
invariant-loop-declaration l =
    l.any ≡ list_any (value_names l.name) (flat_map own_synonyms_in (map declaration_of (take l.declaration-index l.declarations)))
