use Rattle.std.proofs.Common.{◌≡◌, map, take}
use Rattle.std.specs.List.{list_any}
use Rattle.sdl_ast.specs.Views.{process_of}
use Rattle.sdl_sound.specs.Limits.{wrong_instances}
use Rattle.sdl_measures.proofs.limits.has_wrong_instances.Given as goal

abbrev pub invariant-loop-table : goal.invariant-loop-table
invariant-loop-table l =
    l.any ≡ list_any (λ p. wrong_instances p.instances) (map process_of (take l.table-index l.tables))
