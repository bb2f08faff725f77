use Rattle.std.proofs.Common.{ℕ, List, sym, subst}
use Rattle.su_octets.specs.Check.{Check}
use Rattle.su_octets.proofs.CheckLaws.{check_of_register}
use Rattle.su_octets.proofs.check.check_bits.Goals as goal

pub returns : goal.returns
returns c =
    let P : List ℕ → Type 0 = λ check. Check c.args.content.now check in
    subst P (sym c.to_le_bytes.ensures) (check_of_register c.register_of.result c.args.content.now c.register_of.type_inv c.register_of.ensures)
