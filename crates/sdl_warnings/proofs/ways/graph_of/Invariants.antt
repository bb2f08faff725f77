use Rattle.std.proofs.Common.{map, take, ◌≡◌}
use Rattle.sdl_ast.specs.Views.{process_of}
use Rattle.sdl_measures.specs.Links.{graph_in}
use Rattle.sdl_tables.specs.Rows.{rows_inputs}
use Rattle.sdl_warnings.specs.Ways.{enters, state_numbers}
use Rattle.std.specs.List.{list_any}
use Rattle.std.specs.Prelude.{filter}
use Rattle.sdl_warnings.proofs.ways.graph_of.Given as goal

abbrev pub invariant-loop-inputs : goal.invariant-loop-inputs
invariant-loop-inputs l =
    graph_in l.graph.items ≡ map (λ is. filter (λ n. list_any (λ i. enters (process_of l.process) i.text n) is) (state_numbers (process_of l.process))) (map rows_inputs (take l.inputs-index l.states))
