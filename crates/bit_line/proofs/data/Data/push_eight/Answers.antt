use Rattle.std.proofs.Common.{ℕ, Bool, List, ◌++◌, reverse, refl, sym, subst, arith}
use Rattle.su_octets.specs.Bits.{low_bits}
use Rattle.bit_line.specs.Parts.{Packed}
use Rattle.bit_line.proofs.FewLaws.{gathers-few, length-few}
use Rattle.bit_line.proofs.data.Data.push_eight.Goals as goal

pub returns-else-len-ge277 : goal.returns-else-len-ge277
returns-else-len-ge277 c h gathers =
    let k : List Bool = reverse (low_bits 8 c.args.octet) in
    gathers-few k h c.args.self.now _ (length-few 8 c.args.octet (omega arith)) (omega arith) c.args.self.now.part.len_fits refl
    (λ packed.
    let P : List ℕ → Type 0 = λ os. Packed os c.push_eight-whole.new.self.bits c.push_eight-whole.new.self.len (k ++ h) in
    subst P (sym c.push.ensures.items) (c.push_eight-whole.ensures.packed c.args.self.now.octets.items h packed)) gathers
