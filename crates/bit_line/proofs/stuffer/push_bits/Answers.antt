use Rattle.std.proofs.Common.{◌++◌, ap, ◌∙◌, arith}
use Rattle.bit_line.specs.Stuffing.{stuffed, trailing}
use Rattle.bit_line.proofs.SendLaws as laws
use Rattle.bit_line.proofs.stuffer.push_bits.Goals as goal

pub loop-i-init : goal.loop-i-init
loop-i-init c = record {
  packed = λ before sent h count packed. laws.packed_to _ _ _ _ _ (ap (λ l. stuffed l ++ h) (laws.octet_none c.args.octet sent)) packed;
  ones = λ sent count. count ∙ ap (λ l. trailing (stuffed l)) (laws.octet_none c.args.octet sent);
  few = omega arith;
  len = omega arith;
}

pub loop-i-preserved : goal.loop-i-preserved
loop-i-preserved c = record {
  packed = λ before sent h count packed.
      laws.packed_to _ _ _ _ _ (ap (λ l. stuffed l ++ h) (laws.octet_more c.loop-i.i c.args.octet sent))
      (c.push_stuffed-count.ensures.packed before _ h (c.loop-i.invariant.ones sent count) (c.loop-i.invariant.packed before sent h count packed));
  ones = λ sent count.
      c.push_stuffed-count.ensures.ones _ (c.loop-i.invariant.ones sent count) ∙ ap (λ l. trailing (stuffed l)) (laws.octet_more c.loop-i.i c.args.octet sent);
  few = c.push_stuffed-count.ensures.few;
  len = omega (arith, c.push_stuffed-count.ensures.len, c.loop-i.invariant.len);
}
