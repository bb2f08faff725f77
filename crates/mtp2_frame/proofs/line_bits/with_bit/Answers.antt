use Rattle.std.proofs.Common.{◌≡◌, true, false, refl, rules}
use Rattle.mtp2_frame.proofs.LineCounts.{counts_zero, counts_one, counts_fifth}
use Rattle.mtp2_frame.proofs.line_bits.with_bit.Goals as goal

pub returns-then-not-bit-clause-counts : goal.returns-then-not-bit-clause-counts
returns-then-not-bit-clause-counts c sent held =
    let bit : c.args.bit ≡ false = search rules in rw bit (counts_zero sent _ c.args.line held refl)

pub returns-then-line-eq4-clause-counts : goal.returns-then-line-eq4-clause-counts
returns-then-line-eq4-clause-counts c sent held =
    let bit : c.args.bit ≡ true = search rules in rw bit (counts_fifth sent c.args.line held (search rules))

pub returns-clause-counts : goal.returns-clause-counts
returns-clause-counts c sent held =
    let bit : c.args.bit ≡ true = search rules in rw bit (counts_one sent c.args.line held (search rules))
