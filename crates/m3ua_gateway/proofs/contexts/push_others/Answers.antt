use Rattle.std.proofs.Common.{arith}
use Rattle.m3ua_frames.specs.Numbers.{numbers_in}
use Rattle.m3ua_gateway.proofs.ContextLaws.{others_on, others_end}
use Rattle.m3ua_gateway.proofs.contexts.push_others.Goals as goal

pub loop-number-preserved : goal.loop-number-preserved
loop-number-preserved c = (
  others_on c.args.context c.in-Some.number c.loop-number.octets.items c.args.octets.now.items (numbers_in c.loop-number.rest.now) (numbers_in c.in-Some.after.now) (numbers_in c.args.contexts.now) c.push_other.new.octets.items
      c.in-Some.ensures.value c.push_other.ensures.items c.loop-number.invariant.0,
  omega (arith, c.push_other.ensures.len, c.in-Some.ensures.rest, c.loop-number.invariant.1),
)

pub returns : goal.returns
returns c = others_end c.args.context c.loop-number.octets.items c.args.octets.now.items (numbers_in c.loop-number.rest.now) (numbers_in c.args.contexts.now) c.in_default.ensures.value c.loop-number.invariant.0
