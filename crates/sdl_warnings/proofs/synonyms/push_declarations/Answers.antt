use Rattle.std.proofs.Common.{map, take, ap, ◌∙◌}
use Rattle.std.proofs.lemmas.List.{map_push}
use Rattle.sdl_ast.specs.Views.{declaration_of, process_of}
use Rattle.sdl_tables.proofs.Growing.{join_on, taken_more}
use Rattle.sdl_warnings.specs.Warned.{unused_in_declaration}
use Rattle.sdl_warnings.proofs.synonyms.push_declarations.Goals as goal

pub loop-declaration-preserved : goal.loop-declaration-preserved
loop-declaration-preserved c =
    let before = take c.loop-declaration.declaration-index c.args.declarations.now in
    let more = taken_more c.args.declarations.now c.loop-declaration.declaration-index c.declaration-item.result c.loop-declaration-test.true c.declaration-item.is in
    join_on (unused_in_declaration (process_of c.args.process.now)) c.args.found.now.items c.loop-declaration.found.items _ (map declaration_of before) _ (declaration_of c.declaration-item.result)
    (ap (map declaration_of) more ∙ map_push declaration_of before c.declaration-item.result) c.loop-declaration.invariant c.in_ok-push_declaration.ensures
