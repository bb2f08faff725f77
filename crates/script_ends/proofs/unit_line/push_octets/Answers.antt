use Rattle.std.proofs.Common.{arith}
use Rattle.bit_line.proofs.SendLaws as laws
use Rattle.script_ends.proofs.UnitLaws.{sent_none, sent_same}
use Rattle.script_ends.proofs.unit_line.push_octets.Goals as goal

pub loop-octet-init : goal.loop-octet-init
loop-octet-init c = record { sent = sent_none _; few = omega arith }

pub loop-octet-preserved : goal.loop-octet-preserved
loop-octet-preserved c = record {
  sent =
      sent_same _ _ _ _ _ (laws.next_octet c.loop-octet.octet-index c.args.octets.now (omega arith))
      (c.in_ok-ones.ensures.sent _ _ c.loop-octet.invariant.sent);
  few = c.in_ok-ones.ensures.few;
}
