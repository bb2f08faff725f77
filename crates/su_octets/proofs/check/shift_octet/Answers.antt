use Rattle.std.proofs.Common.{ℕ, ◌++◌, reverse, sym, subst}
use Rattle.su_octets.specs.Bits.{low_bits}
use Rattle.su_octets.specs.Register.{Register}
use Rattle.su_octets.proofs.OctetSteps.{octet_step, next_of}
use Rattle.su_octets.proofs.check.shift_octet.Goals as goal

pub returns : goal.returns
returns c sent holds =
    let P : ℕ → Type 0 = λ fed. Register (next_of fed c.args.register) (reverse (low_bits 8 c.args.octet) ++ sent) in
    subst P (sym c.from-fed.ensures) (octet_step c.args.register c.args.octet sent c.ranges.register.fits c.ranges.octet.fits holds)
