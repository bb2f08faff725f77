use Rattle.std.proofs.Common.{◌+◌, ◌*◌, ◌∷◌, [], refl, arith}
use Rattle.std.specs.Option.{option_to_list}
use Rattle.bit_line.proofs.FewLaws.{length-few}
use Rattle.bit_line.proofs.RunLaws.{plain_step}
use Rattle.bit_line.proofs.run.Run.step.Goals as goal

pub returns-in-Some : goal.returns-in-Some
returns-in-Some c =
    plain_step c.args.self _ c.args.octet (c.from.result + c.from-2.result * 128) (c.push_eight-whole.result ∷ []) _ (omega (arith, c.from.ensures, c.from-2.ensures)) c.ranges.octet.fits
    (c.if-not-is_plain.ensures refl) refl (length-few 8 _ (omega arith)) c.in-Some.ensures.bits c.in-Some.ensures.ones c.in-Some.ensures.six c.push_eight-whole.ensures.packed

pub returns : goal.returns
returns c =
    plain_step c.args.self _ c.args.octet (c.from.result + c.from-2.result * 128) (option_to_list c.push_few-whole.result) _ (omega (arith, c.from.ensures, c.from-2.ensures)) c.ranges.octet.fits
    (c.if-not-is_plain.ensures refl) refl (length-few c.in-Some-taken_from.taken.len c.in-Some-taken_from.taken.bits c.in-Some-taken_from.ensures.few) c.in-Some-taken_from.ensures.bits
    c.in-Some-taken_from.ensures.ones c.in-Some-taken_from.ensures.six c.push_few-whole.ensures.packed
