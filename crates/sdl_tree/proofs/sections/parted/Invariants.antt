use Rattle.std.proofs.Common.{◌≡◌, ◌++◌, map, length}
use Rattle.std.specs.List.{filter_map}
use Rattle.std.specs.Vec.Iter.{into_iter_items, into_iter_len}
use Rattle.sdl_productions.specs.MarkedParts.{marked_state_in, marked_connection_in}
use Rattle.sdl_ast.specs.Views.{state_of, connection_of}
use Rattle.sdl_productions.specs.BodyViews.{marked_view}
use Rattle.sdl_tree.specs.SectionViews.{section_of}
use Rattle.sdl_tree.proofs.sections.parted.Given as goal

abbrev pub invariant-rows : goal.invariant-rows
invariant-rows l = (l.yielded ++ into_iter_items l.section-iterator ≡ into_iter_items l.initial.section-iterator)
    × (map (marked_view state_of) l.states.items ≡ filter_map marked_state_in (map section_of l.yielded))
    × (map (marked_view connection_of) l.connections.items ≡ filter_map marked_connection_in (map section_of l.yielded))
    × (into_iter_len l.section-iterator ≡ length (into_iter_items l.section-iterator))
