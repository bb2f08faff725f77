use Rattle.std.proofs.Common.{ap, ◌∙◌}
use Rattle.actor_machine.specs.declared.actor.Actor.{Actor}
use Rattle.actor_state.proofs.open.copied_actor.Goals as goal

-- each part is that of the actor
pub returns : goal.returns
returns c =
    let a : Actor = c.args.actor.now in
    ap (λ vs. let b : Actor = record a { variables = vs; port = c.in_ok-copy.field-0; given = c.copied_given.result } in b) c.copied_variables.ensures
    ∙ ap (λ p. let b : Actor = record a { port = p; given = c.copied_given.result } in b) c.in_ok-copy.ensures
    ∙ ap (λ g. let b : Actor = record a { given = g } in b) c.copied_given.ensures
