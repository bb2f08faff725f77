use Rattle.std.proofs.Common.{map, take, ap, ◌∙◌}
use Rattle.std.proofs.lemmas.List.{map_push}
use Rattle.sdl_ast.specs.Views.{process_of, synonym_of}
use Rattle.sdl_tables.proofs.Growing.{join_on, taken_more}
use Rattle.sdl_warnings.specs.Warned.{unused_own}
use Rattle.sdl_warnings.proofs.synonyms.push_all_own.Goals as goal

pub loop-synonym-preserved : goal.loop-synonym-preserved
loop-synonym-preserved c =
    let before = take c.loop-synonym.synonym-index c.args.synonyms.now in
    let more = taken_more c.args.synonyms.now c.loop-synonym.synonym-index c.synonym-item.result c.loop-synonym-test.true c.synonym-item.is in
    join_on (unused_own (process_of c.args.process.now)) c.args.found.now.items c.loop-synonym.found.items _ (map synonym_of before) _ (synonym_of c.synonym-item.result)
    (ap (map synonym_of) more ∙ map_push synonym_of before c.synonym-item.result) c.loop-synonym.invariant c.in_ok-push_own.ensures
