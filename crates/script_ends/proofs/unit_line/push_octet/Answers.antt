use Rattle.bit_line.proofs.SendLaws as laws
use Rattle.script_ends.proofs.UnitLaws.{sent_same}
use Rattle.script_ends.proofs.unit_line.push_octet.Goals as goal

pub loop-i-init : goal.loop-i-init
loop-i-init c = record {
  sent = λ before sent old. sent_same before _ _ _ _ (laws.octet_none c.args.octet sent) old;
  few = c.requires;
}

pub loop-i-preserved : goal.loop-i-preserved
loop-i-preserved c = record {
  sent = λ before sent old.
      sent_same before _ _ _ _ (laws.octet_more c.loop-i.i c.args.octet sent) (c.in_ok-count.ensures.sent before _ (c.loop-i.invariant.sent before sent old));
  few = c.in_ok-count.ensures.few;
}
