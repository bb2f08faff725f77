use Rattle.std.proofs.Common.{◌++◌, ◌∷◌, [], ◌∙◌, ap, sym, append_assoc}
use Rattle.sdl_tables.proofs.Growing.{taken_more}
use Rattle.sdl_tables.proofs.state_names.push_ids.Goals as goal

pub loop-id-preserved : goal.loop-id-preserved
loop-id-preserved c =
    let id = c.id-item.result in
    c.in_ok-push.ensures.items ∙ (ap (λ l. l ++ id ∷ []) c.loop-id.invariant ∙ (append_assoc _ _ (id ∷ [])
    ∙ ap (λ l. c.args.names.now.items ++ l) (sym (taken_more c.args.ids.now c.loop-id.id-index id c.loop-id-test.true c.id-item.is))))
