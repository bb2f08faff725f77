use Rattle.std.proofs.Common.{◌≡◌, map, take}
use Rattle.sdl_ast.specs.Views.{state_of}
use Rattle.sdl_tables.specs.Names.{part_triggers}
use Rattle.sdl_tables.specs.Triggers.{trigger_ids, AreNumbered}
use Rattle.sdl_tables.proofs.triggers.number_parts.Given as goal

abbrev pub invariant-loop-part : goal.invariant-loop-part
invariant-loop-part l = record {
  ids : map trigger_ids l.rows.items ≡ map part_triggers (map state_of (take l.part-index l.parts));
  numbered : AreNumbered l.names l.rows.items;
}
