use Rattle.std.proofs.Common.{◌≡◌, map, take}
use Rattle.std.specs.List.{AllByRecursion}
use Rattle.sdl_tables.specs.Triggers.{IsNumbered, Keeps}
use Rattle.sdl_tables.proofs.triggers.number_ids.Given as goal

abbrev pub invariant-loop-id : goal.invariant-loop-id
invariant-loop-id l = record {
  ids : map (λ t. t.id) l.triggers.items ≡ take l.id-index l.ids;
  numbered : AllByRecursion (IsNumbered l.names) l.triggers.items;
  keeps : Keeps l.initial.names l.names;
}
