use Rattle.std.proofs.Common.{◌∷◌, ◌∙◌, sym, ap}
use Rattle.su_octets.specs.Bits.{low_bits}
use Rattle.script_ends.proofs.UnitLaws.{low_odd, low_even}
use Rattle.script_ends.proofs.unit_line.with_first.Goals as goal

pub returns-then-bit-clause-bits : goal.returns-then-bit-clause-bits
returns-then-bit-clause-bits c k = low_odd k c.args.others ∙ ap (λ b. b ∷ low_bits k c.args.others) (sym c.if-bit.true)

pub returns-else-bit-clause-bits : goal.returns-else-bit-clause-bits
returns-else-bit-clause-bits c k = low_even k c.args.others ∙ ap (λ b. b ∷ low_bits k c.args.others) (sym c.if-bit.false)
