use Rattle.std.proofs.Common.{[], sym, arith}
use Rattle.bit_line.proofs.StuffLaws.{trailing-none}
use Rattle.bit_line.proofs.ShortLaws.{short_correct}
use Rattle.bit_line.proofs.short.short_unit.Goals as goal

pub returns-then-is_unit : goal.returns-then-is_unit
returns-then-is_unit c =
    short_correct c.args.len c.args.bits c.in-Some.left.len c.in-Some.left.bits c.octets_of-octets.result (c.in-Some.ensures.bits [] (sym trailing-none)) c.in-Some.ensures.ones
    (c.in-Some.ensures.six [] (sym trailing-none)) (omega (arith, c.if-left-ne40.false)) c.octets_of-octets.ensures c.is_unit.ensures.octets c.if-is_unit.ensures.unit
