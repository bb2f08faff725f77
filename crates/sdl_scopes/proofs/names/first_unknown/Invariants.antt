use Rattle.std.proofs.Common.{take}
use Rattle.sdl_sound.specs.Names.{unknown}
use Rattle.sdl_tables.specs.Scopes.{Marks}
use Rattle.sdl_scopes.proofs.names.first_unknown.Given as goal

abbrev pub invariant-loop-id : goal.invariant-loop-id
invariant-loop-id l =
    Marks l.place (unknown l.names (take l.id-index l.ids))
