use Rattle.std.proofs.Common.{reverse, take}
use Rattle.su_octets.specs.Bits.{bits_of}
use Rattle.su_octets.specs.Register.{Register}
use Rattle.su_octets.proofs.check.register_of.Given as goal

abbrev pub invariant-loop-octet : goal.invariant-loop-octet
invariant-loop-octet l = Register l.register (reverse (bits_of (take l.octet-index l.content)))
