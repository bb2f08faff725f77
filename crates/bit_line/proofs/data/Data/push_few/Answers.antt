use Rattle.std.proofs.Common.{ℕ, Bool, List, ◌++◌, reverse, refl, sym, subst, arith}
use Rattle.std.proofs.lemmas.List.{append-nil}
use Rattle.su_octets.specs.Bits.{low_bits}
use Rattle.bit_line.specs.Parts.{Packed}
use Rattle.bit_line.proofs.FewLaws.{gathers-few, length-few}
use Rattle.bit_line.proofs.data.Data.push_few.Goals as goal

pub returns-in-Some : goal.returns-in-Some
returns-in-Some c h gathers =
    let k : List Bool = reverse (low_bits c.args.len c.args.bits) in
    gathers-few k h c.args.self.now _ (length-few c.args.len c.args.bits c.requires.few) (omega arith) c.args.self.now.part.len_fits refl
    (λ packed.
    let P : List ℕ → Type 0 = λ os. Packed os c.push_few.new.self.bits c.push_few.new.self.len (k ++ h) in
    subst P (sym c.push.ensures.items) (c.in-Some.ensures.packed c.args.self.now.octets.items h packed)) gathers

pub returns-in_default : goal.returns-in_default
returns-in_default c h gathers =
    let k : List Bool = reverse (low_bits c.args.len c.args.bits) in
    gathers-few k h c.args.self.now _ (length-few c.args.len c.args.bits c.requires.few) (omega arith) c.args.self.now.part.len_fits refl
    (λ packed.
    let P : List ℕ → Type 0 = λ os. Packed os c.push_few.new.self.bits c.push_few.new.self.len (k ++ h) in
    subst P (append-nil c.args.self.now.octets.items) (c.in_default.ensures.packed c.args.self.now.octets.items h packed)) gathers
