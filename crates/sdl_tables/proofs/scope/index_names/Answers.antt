use Rattle.std.proofs.Common.{◌≡◌, ◌+◌, ◌++◌, ◌∷◌, [], take, sym, ap, ◌∙◌, subst, List}
use Rattle.std.proofs.lemmas.List.{take_more}
use Rattle.sdl_ast.specs.declared.expression.Identifier.{Identifier}
use Rattle.sdl_tables.specs.Names.{add_name, names_once}
use Rattle.sdl_tables.specs.Scopes.{Marks, repeats}
use Rattle.sdl_tables.proofs.Repeats.{names_once-push, marked-push}
use Rattle.sdl_tables.proofs.scope.index_names.Goals as goal

pub loop-id-preserved : goal.loop-id-preserved
loop-id-preserved c =
    let ids = c.args.ids.now in
    let i = c.loop-id.id-index in
    let id = c.id-item.result in
    let done = take i ids in
    let more : take (i + 1) ids ≡ done ++ id ∷ [] =
    take_more ids i id c.loop-id-test.true ∙ ap (λ x. done ++ x ∷ []) (sym c.id-item.is) in (
      c.in_ok-new.ensures.ids
          ∙ (ap (λ n. add_name n id) c.loop-id.invariant.0 ∙ (sym (names_once-push done id) ∙ ap names_once (sym more))),
      subst (λ (xs : List Identifier). Marks c.marked-double.result (repeats [] xs)) (sym more)
          (marked-push done id c.loop-id.names c.in_ok-new.new c.marked-double.result c.loop-id.invariant.0
          c.in_ok-new.ensures.added (c.marked-double.ensures (repeats [] done) c.loop-id.invariant.1)),
    )
