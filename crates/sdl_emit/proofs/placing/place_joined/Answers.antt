use Rattle.std.proofs.Common.{◌∙◌, ◌++◌, ap}
use Rattle.sdl_ast.specs.Views.{text_of}
use Rattle.sdl_emit.specs.Scopes.{scope_in}
use Rattle.sdl_meaning.specs.Code.{code_joins}
use Rattle.sdl_emit.proofs.Gathering.{all_numbered}
use Rattle.sdl_emit.proofs.placing.place_joined.Goals as goal

pub place_each-requires-clause-named : goal.place_each-requires-clause-named
place_each-requires-clause-named c =
    let s = scope_in c.args.names.now in
    let t = text_of c.args.transition.now in
    all_numbered s t c.requires.text c.deref.result.now (c.deref.ensures.value ∙ c.in_ok-collect_joins.ensures ∙ ap (λ l. l ++ code_joins s t) c.clear.ensures.items)
