use Rattle.bit_line.proofs.ShortLaws.{seven_bits}
use Rattle.bit_line.proofs.short.seven_of.Goals as goal

pub returns-clause-bits : goal.returns-clause-bits
returns-clause-bits c =
    rw (c.from.ensures, c.from-2.ensures) (seven_bits c.args.octets.now c.word_of.result c.requires c.word_of.ensures.fits c.word_of.ensures.bits (c.type_inv.octets 5).fits)
