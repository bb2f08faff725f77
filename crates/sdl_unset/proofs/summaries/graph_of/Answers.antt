use Rattle.std.proofs.Common.{List, map, subst, ap, ◌∙◌}
use Rattle.std.specs.List.{AllZip}
use Rattle.sdl_ast.specs.Views.{process_of}
use Rattle.sdl_tables.specs.Names.{Input}
use Rattle.sdl_unset.specs.Flows.{AreSummariesBy}
use Rattle.sdl_sound.specs.Standing.{taken_in}
use Rattle.sdl_unset.proofs.Summing.{graph_is}
use Rattle.sdl_unset.proofs.Telling.{fine_process}
use Rattle.sdl_unset.proofs.PathNames.{graph_sorted}
use Rattle.sdl_unset.proofs.summaries.graph_of.Goals as goal

pub returns-clause-graph : goal.returns-clause-graph
returns-clause-graph c =
    let p = process_of c.args.table.now in
    let states = subst (λ (inputs : List (List Input)). AllZip (AreSummariesBy p) inputs c.in_ok-states.states.items) (ap (map taken_in) c.deref.ensures.value ∙ c.in_ok-inputs.ensures) c.in_ok-states.ensures in
    graph_is p c.requires.order.0 (record { start = c.in_ok-start.start; states = c.in_ok-states.states })
    (fine_process c.requires.known.0 p c.requires.known.1 c.requires.answered) c.requires.order.1 c.in_ok-start.ensures states

pub returns-clause-sorted : goal.returns-clause-sorted
returns-clause-sorted c = graph_sorted (process_of c.args.table.now) _ (returns-clause-graph c)
