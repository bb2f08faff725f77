use Rattle.std.proofs.Common.{◌≡◌, ◌≤◌, ◌++◌, drop, length}
use Rattle.actor_machine.specs.Names.{actors_of}
use Rattle.actor_machine.specs.Core.{names_in}
use Rattle.actor_machine.specs.Effects.{laid_all, losses}
use Rattle.actor_state.specs.Outcomes.{HaveTimers}
use Rattle.actor_state.proofs.link_actors.LinkActors.lay_all.Given as goal

abbrev pub invariant-loop-place : goal.invariant-loop-place
invariant-loop-place l = record {
  names : names_in l.self.actors ≡ actors_of l.set.processes;
  link : laid_all l.actor l.name l.self (drop l.place l.effects) ≡ laid_all l.actor l.name l.initial.self l.effects;
  lost : l.lost.items ++ losses l.actor l.name l.self l.place (drop l.place l.effects) ≡ losses l.actor l.name l.initial.self 0 l.effects;
  few : length l.lost.items ≤ l.place;
  timers : HaveTimers (drop l.place l.effects);
}
