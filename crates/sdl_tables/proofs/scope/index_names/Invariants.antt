use Rattle.std.proofs.Common.{◌≡◌, take, []}
use Rattle.sdl_tables.specs.Names.{names_once}
use Rattle.sdl_tables.specs.Scopes.{Marks, repeats}
use Rattle.sdl_tables.proofs.scope.index_names.Given as goal

abbrev pub invariant-loop-id : goal.invariant-loop-id
invariant-loop-id l =
    (l.names ≡ names_once (take l.id-index l.ids)) × Marks l.double (repeats [] (take l.id-index l.ids))
