use Rattle.std.proofs.Common.{map, take, ◌≡◌}
use Rattle.sdl_ast.specs.Views.{state_of}
use Rattle.sdl_tables.specs.Names.{is_in, part_triggers}
use Rattle.std.specs.List.{list_any}
use Rattle.sdl_warnings.proofs.signals.heeds.Given as goal

abbrev pub invariant-loop-part : goal.invariant-loop-part
invariant-loop-part l =
    l.any ≡ list_any (λ part. is_in (part_triggers part) l.signal) (map state_of (take l.part-index l.parts))
