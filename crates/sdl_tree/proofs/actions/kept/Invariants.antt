use Rattle.std.proofs.Common.{◌≡◌, ◌++◌, map, length}
use Rattle.std.specs.List.{filter_map}
use Rattle.std.specs.Option.{option_map}
use Rattle.std.specs.Vec.Iter.{into_iter_items, into_iter_len}
use Rattle.sdl_ast.specs.Views.{assignment_of}
use Rattle.sdl_tree.proofs.actions.kept.Given as goal

abbrev pub invariant-rows : goal.invariant-rows
invariant-rows l = (l.yielded ++ into_iter_items l.item-iterator ≡ into_iter_items l.initial.item-iterator)
    × (map assignment_of l.assignments.items ≡ filter_map (λ i. i) (map (option_map assignment_of) l.yielded))
    × (into_iter_len l.item-iterator ≡ length (into_iter_items l.item-iterator))
