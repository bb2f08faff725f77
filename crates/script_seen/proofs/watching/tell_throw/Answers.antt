use Rattle.std.proofs.Common.{ap, ◌∙◌}
use Rattle.std.proofs.lemmas.Result.{on_ok_weaker}
use Rattle.actor_machine.specs.declared.actor.Standing.TheVariants.{At}
use Rattle.script_seen.proofs.Noticing.{knows_none, knows_throw, none_waits, none_at_start, none_stopped}
use Rattle.script_seen.proofs.watching.tell_throw.Goals as goal

pub returns-in-Some : goal.returns-in-Some
returns-in-Some g c =
    on_ok_weaker c.throw.result (λ told. knows_throw (λ d ms. g.N.Watcher.knows d ms c.args.watcher.now) (λ d ms. g.N.Watcher.knows d ms c.throw.new.self)
    c.args.set.now c.args.actor.now c.in-State.state c.in-Some.item.now (c.in-At.is ∙ ap At c.in-State.is) c.in-Some.ensures told) c.throw.ensures

pub returns-in-None : goal.returns-in-None
returns-in-None g c ns k =
    knows_none (λ d ms. g.N.Watcher.knows d ms c.args.watcher.now) c.args.set.now _ ns
    (none_waits c.args.set.now c.args.actor.now c.in-State.state (c.in-At.is ∙ ap At c.in-State.is) c.in-None.ensures) k

pub returns-in-Start : goal.returns-in-Start
returns-in-Start g c ns k =
    knows_none (λ d ms. g.N.Watcher.knows d ms c.args.watcher.now) c.args.set.now _ ns
    (none_at_start c.args.set.now c.args.actor.now (c.in-At.is ∙ ap At c.in-Start.is)) k

pub returns-in-Stopped : goal.returns-in-Stopped
returns-in-Stopped g c ns k =
    knows_none (λ d ms. g.N.Watcher.knows d ms c.args.watcher.now) c.args.set.now _ ns (none_stopped c.args.set.now c.args.actor.now c.in-Stopped.is) k
