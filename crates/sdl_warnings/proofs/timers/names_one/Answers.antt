use Rattle.std.proofs.Common.{ap, ◌∙◌, map, take_all}
use Rattle.std.specs.List.{list_any}
use Rattle.sdl_ast.specs.Plain.{PlainStimulus}
use Rattle.sdl_ast.specs.Views.{stimulus_of}
use Rattle.sdl_tables.specs.Names.{same_name}
use Rattle.sdl_warnings.proofs.timers.names_one.Goals as goal

pub returns : goal.returns
returns c =
    c.loop-stimulus.invariant
    ∙ ap (λ l. list_any (λ (s : PlainStimulus). same_name c.args.name s.name.name) (map stimulus_of l)) (take_all c.loop-stimulus.stimulus-index c.args.stimuli.now c.loop-stimulus-test.false)
