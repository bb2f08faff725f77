use Rattle.std.proofs.Common.{arith, rules}
use Rattle.std.proofs.lemmas.Grind.{common_steps}
use Rattle.actor_state.proofs.Naming.{laid_kept}
use Rattle.actor_state.proofs.link_actors.LinkActors.lay_all.Goals as goal

pub loop-place-preserved : goal.loop-place-preserved
loop-place-preserved c = record {
  names = laid_kept c.args.set.now.processes c.args.actor c.args.name c.loop-place.self c.lay.new.self c.index-effects-place.result c.lay.ensures.link c.loop-place.invariant.names;
  link = grind (arith, common_steps);
  lost = grind (arith, common_steps);
  few = search rules;
  timers = grind (arith, common_steps);
}
