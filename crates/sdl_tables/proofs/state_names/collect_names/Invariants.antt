use Rattle.std.proofs.Common.{◌≡◌, ℕ, ◌<◌, vec_len, take, length, map}
use Rattle.std.specs.List.{flat_map}
use Rattle.sdl_tables.specs.Names.{given_to}
use Rattle.sdl_ast.specs.Views.{state_of}
use Rattle.sdl_tables.specs.Rows.{names_at, part_names}
use Rattle.sdl_tables.proofs.state_names.collect_names.Given as goal

abbrev pub invariant-loop-part : goal.invariant-loop-part
invariant-loop-part l =
    (vec_len l.states ≡ length l.ids)
    × ((s : ℕ) → s < length l.ids → names_at l.states.items s ≡ flat_map (given_to (part_names l.which) l.ids s) (map state_of (take l.part-index l.part-items)))
