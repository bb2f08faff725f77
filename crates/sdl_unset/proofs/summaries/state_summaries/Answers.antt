use Rattle.std.proofs.Common.{sym, subst, map, take, List, ◌+◌}
use Rattle.std.specs.Borrow.{Bor}
use Rattle.std.specs.List.{AllZip, flat_map}
use Rattle.std.specs.Global.{Vec}
use Rattle.sdl_unset.specs.declared.paths.Summary.{Summary}
use Rattle.sdl_ast.specs.declared.tree.InputPart.{InputPart}
use Rattle.sdl_ast.specs.Views.{process_of}
use Rattle.sdl_unset.specs.Flows.{AreSummariesBy}
use Rattle.sdl_sound.specs.Standing.{taken_by, taken_in}
use Rattle.sdl_unset.proofs.Summing.{zip_more}
use Rattle.sdl_unset.proofs.summaries.state_summaries.Goals as goal

pub loop-inputs-preserved : goal.loop-inputs-preserved
loop-inputs-preserved c =
    let p = process_of c.args.table.now in
    let states = c.args.states.now in
    let i = c.loop-inputs.inputs-index in
    let here = subst (λ (inputs : List (Bor InputPart)). AreSummariesBy p (flat_map taken_by inputs) c.in_ok-input_summaries.field-0) c.deref.ensures.value c.in_ok-input_summaries.ensures in
    subst (λ (all : List (Vec Summary)). AllZip (AreSummariesBy p) (map taken_in (take (i + 1) states)) all) (sym c.in_ok-push.ensures.items)
    (zip_more (AreSummariesBy p) taken_in states i c.inputs-item.result c.loop-inputs.states_summaries.items c.in_ok-input_summaries.field-0 c.loop-inputs-test.true c.inputs-item.is
    c.loop-inputs.invariant here)
