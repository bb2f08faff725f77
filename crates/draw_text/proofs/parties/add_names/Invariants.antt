use Rattle.std.proofs.Common.{◌≡◌, drop, fold}
use Rattle.sdl_tables.specs.Names.{add_name}
use Rattle.draw_text.proofs.parties.add_names.Given as goal

abbrev pub invariant-loop-id : goal.invariant-loop-id
invariant-loop-id l = fold add_name l.names.items (drop l.id-index l.ids) ≡ fold add_name l.initial.names.items l.ids
