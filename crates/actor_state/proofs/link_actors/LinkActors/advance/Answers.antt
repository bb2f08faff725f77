use Rattle.std.proofs.Common.{◌≡◌, ◌++◌, take, drop, length, arith, rules}
use Rattle.std.proofs.lemmas.Grind.{common_steps}
use Rattle.tick_wheel.specs.Turning.{timers_of}
use Rattle.actor_state.proofs.Passing.{same_passed}
use Rattle.actor_state.proofs.link_actors.LinkActors.advance.Goals as goal

pub returns-clause-link : goal.returns-clause-link
returns-clause-link c =
    let whole : take c.self.inside.actors.len (c.notify_all.new.actors ++ drop (length c.notify_all.new.actors) c.self.inside.actors.items) ≡ c.notify_all.new.actors =
    first_of (search rules, grind (arith, common_steps)) in
    rw (← c.self.view_is)
    (same_passed _ c.args.ticks _ (timers_of c.pass-count.new.wheel)
    (rw whole (cc (c.notify_all.ensures, c.deref_mut.ensures.value, c.due.ensures, c.pass-count.ensures.due)))
    c.pass-count.ensures.clock
    c.pass-count.ensures.rest)
