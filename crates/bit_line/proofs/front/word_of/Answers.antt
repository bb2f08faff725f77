use Rattle.std.proofs.Common.{◌≡◌, ℕ, ◌+◌, ◌*◌, refl, sym, ap, ◌∙◌}
use Rattle.std.specs.Prelude.{get_or}
use Rattle.su_octets.specs.Bits.{bits_of, low_bits}
use Rattle.bit_line.proofs.FrontLaws as laws
use Rattle.bit_line.proofs.front.word_of.Goals as goal

pub returns-clause-bits : goal.returns-clause-bits
returns-clause-bits c =
    let at : ℕ → ℕ = λ i. get_or c.args.octets.now i 0 in
    let same : c.from-5.result + (c.from-3.result + (c.from-4.result + (c.from.result + c.from-2.result * 256) * 256) * 256) * 256
    ≡ at 0 + (at 1 + (at 2 + (at 3 + at 4 * 256) * 256) * 256) * 256 =
    rw (c.from.ensures, c.from-2.ensures, c.from-3.ensures, c.from-4.ensures, c.from-5.ensures) refl in
    ap (λ n. low_bits 40 n) same
    ∙ laws.word_bits (at 0) (at 1) (at 2) (at 3) (at 4) (c.type_inv.octets 0).fits (c.type_inv.octets 1).fits (c.type_inv.octets 2).fits (c.type_inv.octets 3).fits
    ∙ ap bits_of (sym (laws.five_of c.args.octets.now c.requires))
