use Rattle.std.proofs.Common.{arith}
use Rattle.bit_line.proofs.FewLaws as laws
use Rattle.bit_line.proofs.part.Part.push_few.Goals as goal

pub invariant_of-self : goal.invariant_of-self
invariant_of-self c = record {
  len_fits = c.if-count-lt8.true;
  bits_fit = rw (c.from.ensures, c.from-2.ensures)
      (laws.part_fits c.args.self.now.bits c.args.self.now.len c.args.bits c.args.len c.args.self.now.len_fits c.requires.few c.args.self.now.bits_fit c.requires.fits c.if-count-lt8.true);
}

pub invariant_of-self-else-count-lt8 : goal.invariant_of-self-else-count-lt8
invariant_of-self-else-count-lt8 c = record {
  len_fits = omega (arith, c.requires.few, c.args.self.now.len_fits);
  bits_fit = rw (c.from.ensures, c.from-2.ensures)
      (laws.rest_fits c.args.self.now.bits c.args.self.now.len c.args.bits c.args.len c.args.self.now.len_fits c.requires.few c.args.self.now.bits_fit c.requires.fits (omega (arith, c.if-count-lt8.false)));
}

pub returns-then-count-lt8-clause-packed : goal.returns-then-count-lt8-clause-packed
returns-then-count-lt8-clause-packed c octets h packed =
    rw (c.from.ensures, c.from-2.ensures)
    (laws.packed_part octets c.args.self.now.bits c.args.self.now.len c.args.bits c.args.len h c.args.self.now.len_fits c.requires.few c.args.self.now.bits_fit c.requires.fits
    c.if-count-lt8.true packed)

pub returns-else-count-lt8-clause-packed : goal.returns-else-count-lt8-clause-packed
returns-else-count-lt8-clause-packed c octets h packed =
    rw (c.from.ensures, c.from-2.ensures)
    (laws.packed_rest octets c.args.self.now.bits c.args.self.now.len c.args.bits c.args.len h c.args.self.now.len_fits c.requires.few c.args.self.now.bits_fit c.requires.fits
    (omega (arith, c.if-count-lt8.false)) packed)
