use Rattle.std.proofs.Common.{map, take_all, ap, ◌∙◌, List}
use Rattle.sdl_ast.specs.declared.tree.Path.{Path}
use Rattle.sdl_ast.specs.Views.{path_of}
use Rattle.sdl_ast.specs.declared.expression.Identifier.{Identifier}
use Rattle.sdl_ast.specs.Plain.{PlainPath}
use Rattle.sdl_rules.proofs.Copying.{one_more_same}
use Rattle.sdl_rules.proofs.copies.copy_paths.Goals as goal

pub loop-path-preserved : goal.loop-path-preserved
loop-path-preserved c =
    let make : List Identifier → PlainPath = λ l. record { from = c.path-item.result.from; to = c.path-item.result.to; signals = l } in
    one_more_same path_of c.args.given.now c.loop-path.copies.items _ c.loop-path.path-index c.path-item.result _ c.loop-path-test.true c.path-item.is
    c.loop-path.invariant c.in_ok-push.ensures.items (ap make (c.in_ok-from_slice.ensures.items ∙ c.as_slice.ensures.value))

pub returns : goal.returns
returns c = c.loop-path.invariant ∙ ap (λ (l : List Path). map path_of l) (take_all c.loop-path.path-index c.args.given.now c.loop-path-test.false)
