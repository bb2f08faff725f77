use Rattle.std.proofs.Common.{◌∙◌, List, ap}
use Rattle.sdl_ast.specs.declared.tree.Stimulus.{Stimulus}
use Rattle.sdl_rules.specs.SenderTables.{stimulus_rows}
use Rattle.sdl_rules.proofs.Coming.{stimuli_numbered}
use Rattle.sdl_rules.proofs.reaching.look_at.Goals as goal

pub returns-clause-joining : goal.returns-clause-joining
returns-clause-joining c =
    let names = c.args.table.now.names in
    let xs : List Stimulus = c.args.input.now.stimuli.items in
    let rows = c.in_ok-rows.ensures ∙ ap (λ (l : List Stimulus). stimulus_rows names l) c.deref.ensures.value ∙ stimuli_numbered names xs in
    λ i. record { rows = rows i; targets = c.in_ok-targets.ensures.targets i }
