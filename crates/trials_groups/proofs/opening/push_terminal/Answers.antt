use Rattle.std.proofs.Common.{◌++◌, ◌∷◌, [], ap, ◌∙◌}
use Rattle.trials_groups.proofs.opening.push_terminal.Goals as goal

pub returns-in-Ok : goal.returns-in-Ok
returns-in-Ok c =
    (c.in-Ok.terminal, c.in-Ok.ensures.ok, c.push_reserved.ensures.items ∙ ap (λ xs. xs ++ c.in-Ok.terminal ∷ []) c.reserve.ensures.items)
