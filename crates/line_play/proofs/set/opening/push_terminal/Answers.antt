use Rattle.std.proofs.Common.{◌++◌, ◌∷◌, [], ap, ◌∙◌}
use Rattle.line_play.proofs.set.opening.push_terminal.Goals as goal

pub returns-in-Ok-clause-ok : goal.returns-in-Ok-clause-ok
returns-in-Ok-clause-ok c =
    (c.in-Ok.terminal, c.in-Ok.ensures.ok, c.push_reserved.ensures.items ∙ ap (λ xs. xs ++ c.in-Ok.terminal ∷ []) c.reserve.ensures.items)
