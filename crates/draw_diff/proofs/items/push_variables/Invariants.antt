use Rattle.std.proofs.Common.{◌≡◌, ◌++◌, drop, map}
use Rattle.std.specs.List.{flat_map}
use Rattle.draw_diff.specs.Items.{item_of, variable_item}
use Rattle.draw_diff.proofs.items.push_variables.Given as goal

abbrev pub invariant-loop-variable : goal.invariant-loop-variable
invariant-loop-variable l =
    map item_of l.items.items ++ map (variable_item l.process) (drop l.variable-index l.variables) ≡ map item_of l.initial.items.items ++ map (variable_item l.process) l.variables
