use Rattle.sdl_ast.specs.Plain.{PlainStimulus}
use Rattle.sdl_ast.specs.Views.{stimulus_of, text_of}
use Rattle.sdl_tables.specs.Names.{Input}
use Rattle.sdl_tables.specs.Rows.{row_input}
use Rattle.sdl_tables.proofs.Growing.{map_on, pushed}
use Rattle.sdl_tables.proofs.input_rows.push_input.Goals as goal
use Rattle.plain_laws.proofs.Lists.{mapped_more}

pub loop-stimulus-preserved : goal.loop-stimulus-preserved
loop-stimulus-preserved c =
    let taken = λ (s : PlainStimulus). let i : Input = record { at = c.args.input.now.at; stimulus = s; text = text_of c.args.input.now.transition } in i in
    map_on taken _ _ _ _ _ _ (mapped_more stimulus_of _ c.loop-stimulus.stimulus-index c.stimulus-item.result c.loop-stimulus-test.true c.stimulus-item.is)
    c.loop-stimulus.invariant (pushed row_input _ _ _ c.in_ok-push.ensures.items)
