use Rattle.sdl_ast.specs.Plain.{PlainStimulus}
use Rattle.sdl_ast.specs.Views.{stimulus_of}
use Rattle.sdl_tables.proofs.Growing.{map_on}
use Rattle.sdl_tables.proofs.state_names.push_stimuli.Goals as goal
use Rattle.plain_laws.proofs.Lists.{mapped_more}

pub loop-stimulus-preserved : goal.loop-stimulus-preserved
loop-stimulus-preserved c =
    map_on (λ (s : PlainStimulus). s.name) _ _ _ _ _ _
    (mapped_more stimulus_of c.args.stimuli.now c.loop-stimulus.stimulus-index c.stimulus-item.result c.loop-stimulus-test.true c.stimulus-item.is)
    c.loop-stimulus.invariant c.in_ok-push.ensures.items
