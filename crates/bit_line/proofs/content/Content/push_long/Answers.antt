use Rattle.std.proofs.Common.{ℕ, Bool, List, ◌++◌, reverse, sym, subst, arith}
use Rattle.su_octets.specs.Bits.{low_bits}
use Rattle.bit_line.specs.Deframing.{Holds}
use Rattle.bit_line.proofs.FewLaws.{each_none}
use Rattle.bit_line.proofs.SendLaws.{octet_more}
use Rattle.bit_line.proofs.content.Content.push_long.Goals as goal

pub loop-i-init : goal.loop-i-init
loop-i-init c h held = let P : List Bool → Type 0 = λ l. Holds l c.args.self.now in subst P (sym (each_none c.args.bits h)) held

pub loop-i-preserved : goal.loop-i-preserved
loop-i-preserved c h held =
    let P : List Bool → Type 0 = λ l. Holds l c.push.new.self in
    subst P (octet_more c.loop-i.i c.args.bits h) (c.push.ensures _ (c.loop-i.invariant h held))

pub returns : goal.returns
returns c h held =
    let P : ℕ → Type 0 = λ n. Holds (reverse (low_bits n c.args.bits) ++ h) c.loop-i.self in
    subst P (omega arith) (c.loop-i.invariant h held)
