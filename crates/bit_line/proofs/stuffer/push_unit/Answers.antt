use Rattle.std.proofs.Common.{◌++◌, sym, ap, ◌∙◌, arith}
use Rattle.bit_line.specs.Stuffing.{stuffed, trailing}
use Rattle.bit_line.proofs.SendLaws as laws
use Rattle.bit_line.proofs.stuffer.push_unit.Goals as goal

pub loop-octet-init : goal.loop-octet-init
loop-octet-init c = record {
  packed = λ before h packed. laws.packed_to _ _ _ _ _ (ap (λ l. l ++ h) (sym laws.stuffed-none) ∙ ap (λ l. stuffed l ++ h) (sym laws.no_octets)) packed;
  ones = laws.trailing-nothing ∙ ap (λ l. trailing (stuffed l)) (sym laws.no_octets);
  few = omega arith;
  len = omega (arith, c.requires.room);
}

pub loop-octet-preserved : goal.loop-octet-preserved
loop-octet-preserved c = record {
  packed = λ before h packed.
      laws.packed_to _ _ _ _ _ (ap (λ l. stuffed l ++ h) (laws.next_octet c.loop-octet.octet-index c.args.octets.now (omega arith)))
      (c.push_octet-ones.ensures.packed before _ h c.loop-octet.invariant.ones (c.loop-octet.invariant.packed before h packed));
  ones =
      c.push_octet-ones.ensures.ones _ c.loop-octet.invariant.ones
      ∙ ap (λ l. trailing (stuffed l)) (laws.next_octet c.loop-octet.octet-index c.args.octets.now (omega arith));
  few = c.push_octet-ones.ensures.few;
  len = omega (arith, c.push_octet-ones.ensures.len, c.loop-octet.invariant.len);
}
