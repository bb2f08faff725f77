use Rattle.sdl_rules.specs.Views.{known_of}
use Rattle.sdl_rules.proofs.Entities.{entities_next, doubles_next, faults_next}
use Rattle.sdl_rules.proofs.expansion.expand_entities.Goals as goal

pub loop-entity-preserved : goal.loop-entity-preserved
loop-entity-preserved c =
    let k = known_of c.args.outer.now in
    let es = c.args.entities.now in
    let i = c.loop-entity.entity-index in
    let e = c.entity-item.result in
    let within = c.loop-entity-test.true in (
      entities_next k es c.loop-entity.copies.items _ i e _ within c.entity-item.is c.loop-entity.invariant.0 c.in_ok-push.ensures.items c.in_ok-entity.ensures.entity,
      doubles_next es i e _ _ _ within c.entity-item.is c.loop-entity.invariant.1 c.in_ok-entity.ensures.double c.both-found.ensures.double,
      faults_next k es i e _ _ _ within c.entity-item.is c.loop-entity.invariant.2 c.in_ok-entity.ensures.strays c.both-found.ensures.strays,
    )
