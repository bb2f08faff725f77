use Rattle.bit_line.proofs.ContentLaws.{packed-more, packed-whole, packed-same}
use Rattle.bit_line.proofs.part.Part.push.Goals as goal

pub returns-then-self-eq7-clause-packed : goal.returns-then-self-eq7-clause-packed
returns-then-self-eq7-clause-packed c octets h packed =
    packed-whole octets c.args.self.now.bits c.args.self.now.len c.with_bit-bits.result _ _ c.args.bit h c.with_bit-bits.ensures.bits c.if-self-eq7.true c.new.ensures.len packed

pub returns-else-self-eq7-clause-packed : goal.returns-else-self-eq7-clause-packed
returns-else-self-eq7-clause-packed c octets h packed =
    packed-same octets _ _ _ (packed-more octets c.args.self.now.bits c.args.self.now.len c.with_bit-bits.result c.args.bit h c.with_bit-bits.ensures.bits packed)
