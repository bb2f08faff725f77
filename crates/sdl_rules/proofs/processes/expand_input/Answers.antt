use Rattle.std.proofs.Common.{map, ap, ◌∙◌, List}
use Rattle.sdl_ast.specs.declared.tree.Stimulus.{Stimulus}
use Rattle.sdl_ast.specs.Views.{stimulus_of}
use Rattle.sdl_rules.proofs.Copying.{input_is}
use Rattle.sdl_rules.proofs.processes.expand_input.Goals as goal

pub returns : goal.returns
returns c = input_is _ _ _ _ _ (c.in_ok-stimuli.ensures ∙ ap (λ (l : List Stimulus). map stimulus_of l) c.deref.ensures.value) c.in_ok-transition.ensures
