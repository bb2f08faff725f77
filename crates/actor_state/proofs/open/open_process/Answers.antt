use Rattle.std.proofs.Common.{◌++◌, List, ap, arith, sym, ◌∙◌, append-nil}
use Rattle.actor_machine.specs.declared.actor.Actor.{Actor}
use Rattle.actor_state.proofs.Opened.{all_left, none_left, instance_more}
use Rattle.actor_state.proofs.open.open_process.Goals as goal

pub overflow_cast-count : goal.overflow_cast-count
overflow_cast-count c = omega (arith, c.requires.few.instances)

pub loop-done-init : goal.loop-done-init
loop-done-init c = ap (λ (xs : List Actor). c.args.actors.now.items ++ xs) (all_left c.args.port c.args.process.now c.args.number)

pub loop-done-preserved : goal.loop-done-preserved
loop-done-preserved c =
    instance_more c.args.port c.args.process.now c.args.number c.loop-done.done c.loop-done.actors.items _ _ c.in_ok-opened_actor.field-0
    (omega (arith, c.loop-done-test.true)) c.loop-done.invariant c.in_ok-push.ensures.items c.in_ok-opened_actor.ensures

pub returns : goal.returns
returns c =
    sym (append-nil c.loop-done.actors.items)
    ∙ ap (λ (xs : List Actor). c.loop-done.actors.items ++ xs) (sym (none_left c.args.port c.args.process.now c.args.number c.loop-done.done (omega (arith, c.loop-done-test.false))))
    ∙ c.loop-done.invariant
