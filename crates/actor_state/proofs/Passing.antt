-- A link as ticks pass.
use Rattle.std.proofs.Common.{◌≡◌, ◌∙◌, ℕ, ◌+◌, List, ap}
use Rattle.tick_wheel.specs.Timers.{Timers, Deadlines, due, not_due}
use Rattle.actor_machine.specs.Core.{Core}
use Rattle.actor_machine.specs.Step.{notified, passed}
use Rattle.actor_machine.specs.declared.actor.Actor.{Actor}

timers_with : ℕ → Deadlines → Timers
timers_with clock deadlines = record { clock = clock; deadlines = deadlines }

with_both : Core → List Actor → Timers → Core
with_both w actors ts = record w { actors = actors; timers = ts }

same_timers : (ts : Timers) (clock : ℕ) (deadlines : Deadlines) → ts.clock ≡ clock → ts.deadlines ≡ deadlines → ts ≡ timers_with clock deadlines
unfolding timers_with
same_timers ts clock deadlines e f = ap (λ x. timers_with x ts.deadlines) e ∙ ap (λ y. timers_with clock y) f

pub same_passed : (w : Core) (k : ℕ) (actors : List Actor) (ts : Timers)
    → actors ≡ notified w.actors (due w.timers.deadlines (w.timers.clock + k))
    → ts.clock ≡ w.timers.clock + k
    → ts.deadlines ≡ not_due w.timers.deadlines (w.timers.clock + k)
    → record w { actors = actors; timers = ts } ≡ passed k w
unfolding passed timers_with with_both
same_passed w k actors ts e f g =
    ap (λ x. with_both w x ts) e
    ∙ ap (λ y. with_both w (notified w.actors (due w.timers.deadlines (w.timers.clock + k))) y)
    (same_timers ts (w.timers.clock + k) (not_due w.timers.deadlines (w.timers.clock + k)) f g)
