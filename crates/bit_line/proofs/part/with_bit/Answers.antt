use Rattle.std.proofs.Common.{[], ◌∷◌, ◌++◌, sym, ap, ◌∙◌, ◌+◌}
use Rattle.std.proofs.lemmas.Nat.{one_shl}
use Rattle.su_octets.specs.Bits.{low_bits}
use Rattle.bit_line.proofs.BitLists.{low_bits-zero, low_bits-one}
use Rattle.bit_line.proofs.part.with_bit.Goals as goal

pub returns-then-bit-clause-bits : goal.returns-then-bit-clause-bits
returns-then-bit-clause-bits c =
    ap (λ n. low_bits (c.args.len + 1) (c.args.bits + n)) (one_shl c.args.len 8 c.requires.len_fits)
    ∙ low_bits-one c.args.len c.args.bits c.requires.bits_fit ∙ ap (λ b. low_bits c.args.len c.args.bits ++ b ∷ []) (sym c.if-bit.true)

pub returns-else-bit-clause-bits : goal.returns-else-bit-clause-bits
returns-else-bit-clause-bits c =
    low_bits-zero c.args.len c.args.bits c.requires.bits_fit ∙ ap (λ b. low_bits c.args.len c.args.bits ++ b ∷ []) (sym c.if-bit.false)
