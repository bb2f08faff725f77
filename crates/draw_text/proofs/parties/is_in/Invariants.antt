use Rattle.std.proofs.Common.{◌≡◌, drop}
use Rattle.sdl_tables.specs.Names.{is_in}
use Rattle.draw_text.proofs.parties.is_in.Given as goal

abbrev pub invariant-loop-id : goal.invariant-loop-id
invariant-loop-id l = is_in l.ids l.name ≡ is_in (drop l.id-index l.ids) l.name
