use denote.Ref.{Bor}
use Rattle.sdl_ast.specs.Views.{synonym_of}
use Rattle.sdl_ast.specs.declared.tree.Synonym.{Synonym}
use Rattle.sdl_tables.proofs.Growing.{taken_more, map_on, pushed}
use Rattle.sdl_rules.proofs.declaring.push_synonyms.Goals as goal

pub loop-synonym-preserved : goal.loop-synonym-preserved
loop-synonym-preserved c =
    map_on synonym_of _ _ _ _ _ c.synonym-item.result (taken_more c.args.list.now c.loop-synonym.synonym-index c.synonym-item.result c.loop-synonym-test.true c.synonym-item.is)
    c.loop-synonym.invariant (pushed (λ (d : Bor Synonym). synonym_of d.now) _ _ _ c.in_ok-push.ensures.items)
