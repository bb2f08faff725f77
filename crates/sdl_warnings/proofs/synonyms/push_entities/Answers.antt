use Rattle.std.proofs.Common.{map, take, ap, ◌∙◌}
use Rattle.std.proofs.lemmas.List.{map_push}
use Rattle.sdl_ast.specs.Views.{block_of, entity_of}
use Rattle.sdl_tables.proofs.Growing.{join_on, taken_more}
use Rattle.sdl_warnings.specs.Warned.{unused_in_entity}
use Rattle.sdl_warnings.proofs.synonyms.push_entities.Goals as goal

pub loop-entity-preserved : goal.loop-entity-preserved
loop-entity-preserved c =
    let before = take c.loop-entity.entity-index c.args.entities.now in
    let more = taken_more c.args.entities.now c.loop-entity.entity-index c.entity-item.result c.loop-entity-test.true c.entity-item.is in
    join_on (unused_in_entity (block_of c.args.block.now)) c.args.found.now.items c.loop-entity.found.items _ (map entity_of before) _ (entity_of c.entity-item.result)
    (ap (map entity_of) more ∙ map_push entity_of before c.entity-item.result) c.loop-entity.invariant c.in_ok-push_entity.ensures
