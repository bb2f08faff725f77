use Rattle.std.proofs.Common.{arith}
use Rattle.link_term.proofs.Cutting.{heard_nothing, heard_more, rest_length}
use Rattle.link_term.proofs.Losing.{took_nothing, took_more}
use Rattle.link_term.proofs.terminal.Terminal.line_in.Goals as goal

pub loop-taken-init : goal.loop-taken-init
loop-taken-init c = record { within = omega arith; heard = heard_nothing c.args.self.now; took = took_nothing c.args.self.now }

pub take_part-part-requires : goal.take_part-part-requires
take_part-part-requires c = omega (arith, rest_length c.loop-taken.taken c.args.octets.now, c.loop-taken-test.true)

pub loop-taken-preserved : goal.loop-taken-preserved
loop-taken-preserved c = record {
  within = omega (arith, c.take_part-part.ensures.most, rest_length c.loop-taken.taken c.args.octets.now, c.loop-taken.invariant.within);
  heard =
      heard_more c.args.self.now c.loop-taken.self c.take_part-part.new.self c.args.octets.now c.loop-taken.taken c.take_part-part.result
      c.loop-taken.invariant.heard c.take_part-part.ensures.heard;
  took = took_more c.args.self.now c.loop-taken.self c.take_part-part.new.self c.loop-taken.invariant.took c.take_part-part.ensures.took;
}
