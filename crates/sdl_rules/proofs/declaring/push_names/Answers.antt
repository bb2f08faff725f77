use Rattle.sdl_ast.specs.Plain.{PlainSynonym}
use Rattle.sdl_ast.specs.Views.{synonym_of}
use Rattle.sdl_tables.proofs.Growing.{map_on}
use Rattle.sdl_rules.proofs.declaring.push_names.Goals as goal
use Rattle.plain_laws.proofs.Lists.{mapped_more}

pub loop-synonym-preserved : goal.loop-synonym-preserved
loop-synonym-preserved c =
    map_on (λ (d : PlainSynonym). d.name) _ _ _ _ _ _
    (mapped_more synonym_of c.args.synonyms.now c.loop-synonym.synonym-index c.synonym-item.result c.loop-synonym-test.true c.synonym-item.is)
    c.loop-synonym.invariant c.in_ok-push.ensures.items
