use Rattle.bit_line.proofs.OctetLaws.{packed_shifted}
use Rattle.bit_line.proofs.part.Part.push_eight.Goals as goal

pub returns-clause-packed : goal.returns-clause-packed
returns-clause-packed c octets h packed =
    rw (c.from.ensures, c.from-2.ensures)
    (packed_shifted octets c.args.self.now.bits c.args.self.now.len c.args.octet h c.args.self.now.len_fits c.ranges.octet.fits c.args.self.now.bits_fit packed)
