use Rattle.std.proofs.Common.{map, take_all, ap, ◌∙◌, List}
use Rattle.sdl_ast.specs.declared.tree.Declaration.{Declaration}
use Rattle.sdl_ast.specs.Views.{declaration_of}
use Rattle.sdl_rules.specs.Expansion.{expanded_declaration}
use Rattle.sdl_rules.specs.Views.{sight_of}
use Rattle.sdl_rules.proofs.Copying.{one_more}
use Rattle.sdl_rules.proofs.processes.expand_declarations.Goals as goal

pub loop-declaration-preserved : goal.loop-declaration-preserved
loop-declaration-preserved c =
    one_more declaration_of (expanded_declaration (sight_of c.args.sight.now)) c.args.given.now c.loop-declaration.copies.items _ c.loop-declaration.declaration-index c.declaration-item.result _ c.loop-declaration-test.true c.declaration-item.is
    c.loop-declaration.invariant c.in_ok-push.ensures.items c.in_ok-expand_declaration.ensures

pub returns : goal.returns
returns c = c.loop-declaration.invariant ∙ ap (λ (l : List Declaration). map (expanded_declaration (sight_of c.args.sight.now)) (map declaration_of l)) (take_all c.loop-declaration.declaration-index c.args.given.now c.loop-declaration-test.false)
