use Rattle.std.proofs.Common.{◌∙◌, List, map, ap}
use Rattle.sdl_ast.specs.declared.tree.Stimulus.{Stimulus}
use Rattle.sdl_ast.specs.Views.{block_of, process_of, stimulus_of}
use Rattle.sdl_sound.specs.Actions.{takes}
use Rattle.sdl_sound.specs.Receivers.{answers_all}
use Rattle.sdl_rules.proofs.gathered.input_senders.Goals as goal

pub returns : goal.returns
returns c =
    let b = block_of c.args.block.now in
    let p = process_of c.args.process.now in
    let gathers = (c.in_ok-add_stimuli.ensures _ (c.in_ok-gathered.ensures b p)).gathers in record {
      told = λ s. gathers.told s ∙ ap (λ (l : List Stimulus). answers_all b p (map takes (map stimulus_of l)) s) c.deref-2.ensures.value;
      numbered = gathers.numbered;
    }
