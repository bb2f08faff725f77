use Rattle.std.proofs.Common.{rules, arith, ◌-◌}
use Rattle.link_group.proofs.Renewing.{none_out, next_out}
use Rattle.link_group.proofs.doing.drop_bound.Goals as goal

pub loop-place-init : goal.loop-place-init
loop-place-init c = (
  none_out c.args.points c.args.terminal.now _ c.held-place.ensures.value,
  omega (arith, c.held-place.ensures.value),
  omega (arith, c.held-place.ensures.value, c.held-place.ensures.window.within_kept),
  (search rules),
)

pub loop-place-preserved : goal.loop-place-preserved
loop-place-preserved c = (
  next_out c.args.points c.args.terminal.now c.loop-place.terminal c.drop_bound_at.new.terminal c.loop-place.place (c.loop-place.place - 1)
      (omega (arith, c.loop-place-test.true)) c.loop-place.invariant.1 c.loop-place.invariant.0 c.drop_bound_at.ensures,
  omega (arith, c.loop-place.invariant.1),
  omega (arith, c.loop-place-test.true, c.loop-place.invariant.3),
  c.loop-place.invariant.3,
)
