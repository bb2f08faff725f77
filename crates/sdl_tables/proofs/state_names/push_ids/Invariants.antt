use Rattle.std.proofs.Common.{◌≡◌, ◌++◌, take}
use Rattle.sdl_tables.proofs.state_names.push_ids.Given as goal

abbrev pub invariant-loop-id : goal.invariant-loop-id
invariant-loop-id l = l.names.items ≡ l.initial.names.items ++ take l.id-index l.ids
