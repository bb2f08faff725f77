use Rattle.std.proofs.Common.{◌+◌, ◌*◌, arith}
use Rattle.bit_line.proofs.PlainLaws.{plain_by}
use Rattle.bit_line.proofs.window.plain_count.Goals as goal

pub returns-then-ends-count-eq0-clause-plain : goal.returns-then-ends-count-eq0-clause-plain
returns-then-ends-count-eq0-clause-plain c m less =
    plain_by (c.args.recent + c.args.bits * 128) m c.min-count.result less (omega (arith, c.min-count.ensures, c.requires.few)) (rw (c.from.ensures, c.from-2.ensures) at c.if-ends-count-eq0.true)
