use Rattle.std.proofs.Common.{◌∙◌, ℕ, List, ap, map, take_all}
use Rattle.std.specs.Prelude.{filter}
use Rattle.std.specs.List.{list_any}
use Rattle.sdl_ast.specs.Views.{process_of}
use Rattle.sdl_tables.specs.Names.{Input}
use Rattle.sdl_tables.specs.Rows.{row_input, rows_inputs}
use Rattle.sdl_warnings.specs.Ways.{enters, state_numbers}
use Rattle.sdl_warnings.proofs.StateWays.{rows_on, links_same}
use Rattle.sdl_warnings.proofs.ways.graph_of.Goals as goal

pub loop-inputs-preserved : goal.loop-inputs-preserved
loop-inputs-preserved c =
    let p = process_of c.args.process.now in
    let F : List Input → List ℕ = λ is. filter (λ n. list_any (λ i. enters p i.text n) is) (state_numbers p) in
    rows_on F rows_inputs c.args.states.now c.loop-inputs.inputs-index c.inputs-item.result _ _ c.in_ok-targets_of_inputs.field-0 c.loop-inputs-test.true c.inputs-item.is
    c.in_ok-push.ensures.items (c.in_ok-targets_of_inputs.ensures ∙ ap (λ l. F (map row_input l)) c.deref.ensures.value) c.loop-inputs.invariant

pub returns : goal.returns
returns c =
    let p = process_of c.args.process.now in
    let F : List Input → List ℕ = λ is. filter (λ n. list_any (λ i. enters p i.text n) is) (state_numbers p) in
    c.loop-inputs.invariant
    ∙ (ap (λ l. map F (map rows_inputs l)) (take_all c.loop-inputs.inputs-index c.args.states.now c.loop-inputs-test.false)
    ∙ links_same p (map rows_inputs c.args.states.now) c.requires.inputs)
