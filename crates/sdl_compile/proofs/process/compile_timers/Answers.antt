use Rattle.std.proofs.Common.{[], ◌∷◌, ◌++◌, ap, ◌∙◌, add-one}
use Rattle.sdl_ast.specs.declared.expression.Identifier.{Identifier}
use Rattle.sdl_compile.proofs.Zips.{made_more}
use Rattle.sdl_compile.proofs.process.compile_timers.Goals as goal

pub loop-number-preserved : goal.loop-number-preserved
loop-number-preserved c =
    rw (add-one, c.in_ok-push.ensures.items, c.draft_name.ensures)
    (ap (λ l. l ++ c.name.result.name ∷ []) c.loop-number.invariant ∙ made_more (λ (id : Identifier). id.name) c.args.table.now c.loop-number.number c.name.result c.name.ensures)
