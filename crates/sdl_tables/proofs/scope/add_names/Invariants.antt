use Rattle.std.proofs.Common.{◌≡◌, take, fold}
use Rattle.sdl_tables.specs.Names.{add_name}
use Rattle.sdl_tables.proofs.scope.add_names.Given as goal

abbrev pub invariant-loop-id : goal.invariant-loop-id
invariant-loop-id l =
    l.names ≡ fold add_name l.initial.names (take l.id-index l.ids)
