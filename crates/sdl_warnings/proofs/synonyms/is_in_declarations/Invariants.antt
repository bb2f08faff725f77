use Rattle.std.proofs.Common.{map, take, ◌≡◌}
use Rattle.std.specs.List.{flat_map}
use Rattle.sdl_ast.specs.Views.{declaration_of}
use Rattle.sdl_tables.specs.Names.{is_in}
use Rattle.sdl_rules.specs.Expansion.{names_declared}
use Rattle.sdl_warnings.proofs.synonyms.is_in_declarations.Given as goal

abbrev pub invariant-loop-declaration : goal.invariant-loop-declaration
invariant-loop-declaration l =
    l.any ≡ is_in (flat_map names_declared (map declaration_of (take l.declaration-index l.declarations))) l.name
