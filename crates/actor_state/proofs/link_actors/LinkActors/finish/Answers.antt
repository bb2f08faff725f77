use Rattle.std.proofs.Common.{ap, rules}
use Rattle.actor_machine.specs.Core.{Core}
use Rattle.actor_machine.specs.Effects.{finished, lost_in}
use Rattle.actor_state.proofs.Naming.{settled_kept}
use Rattle.actor_state.proofs.link_actors.LinkActors.finish.Goals as goal

pub lay_all-lost-requires-clause-names : goal.lay_all-lost-requires-clause-names
lay_all-lost-requires-clause-names c =
    settled_kept c.args.set.now.processes c.args.actor.number c.args.variables.now c.args.self.now.actors _ (ap (λ (w : Core). w.actors) c.start.ensures) c.requires.names

pub returns-clause-link : goal.returns-clause-link
unfolding finished
returns-clause-link c = search rules

pub returns-clause-report : goal.returns-clause-report
unfolding lost_in
returns-clause-report c = search rules
