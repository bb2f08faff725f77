use Rattle.std.proofs.Common.{take, ◌≡◌}
use Rattle.sdl_tables.specs.Names.{is_in}
use Rattle.sdl_warnings.proofs.signals.has_name.Given as goal

abbrev pub invariant-loop-id : goal.invariant-loop-id
invariant-loop-id l =
    l.any ≡ is_in (take l.id-index l.ids) l.name
