use Rattle.std.proofs.Common.{◌++◌, ◌∷◌, [], take, sym, ap, ◌∙◌}
use Rattle.std.proofs.lemmas.List.{take_more}
use Rattle.actor_state.proofs.open.copied_actors.Goals as goal

pub loop-actor-preserved : goal.loop-actor-preserved
loop-actor-preserved c =
    let xs = c.args.actors.now in
    let at = c.loop-actor.actor-index in
    c.in_ok-push.ensures.items
    ∙ ap (λ t. t ++ c.in_ok-copied_actor.field-0 ∷ []) c.loop-actor.invariant
    ∙ ap (λ a. take at xs ++ a ∷ []) (c.in_ok-copied_actor.ensures ∙ c.actor-item.is)
    ∙ sym (take_more xs at c.actor-item.result c.loop-actor-test.true)
