use Rattle.std.proofs.Common.{sym, ◌∙◌}
use Rattle.bit_line.proofs.CountLaws as laws
use Rattle.bit_line.proofs.counter.Counter.close.Goals as goal

pub returns-in-Correct-clause-counts : goal.returns-in-Correct-clause-counts
returns-in-Correct-clause-counts c mode content counts = laws.closing-correct c.args.closed content mode _ c.in-Correct.is c.stop.ensures.normal

pub returns-in-Correct-clause-given : goal.returns-in-Correct-clause-given
returns-in-Correct-clause-given c mode content counts =
    laws.given-correct c.args.closed content mode c.stop.result c.in-Correct.is (c.stop.ensures.full mode counts)

pub returns-then-is_normal-clause-counts : goal.returns-then-is_normal-clause-counts
returns-then-is_normal-clause-counts c mode content counts = laws.closing-wrong c.args.closed content mode _ c.in-Wrong.is (c.tick.ensures.counts mode counts)

pub returns-then-is_normal-clause-given : goal.returns-then-is_normal-clause-given
returns-then-is_normal-clause-given c mode content counts =
    laws.given-normal c.args.closed content mode c.args.self.now.count c.tick.result c.in-Wrong.is (sym c.if-is_normal.true ∙ c.is_normal.ensures) counts (c.tick.ensures.full mode counts)

pub returns-else-is_normal-clause-counts : goal.returns-else-is_normal-clause-counts
returns-else-is_normal-clause-counts c mode content counts =
    laws.closing-wrong c.args.closed content mode _ c.in-Wrong.is (c.tick-else-is_normal.ensures.counts mode counts)

pub returns-else-is_normal-clause-given : goal.returns-else-is_normal-clause-given
returns-else-is_normal-clause-given c mode content counts =
    laws.given-counting c.args.closed content mode c.args.self.now.count c.tick-else-is_normal.result c.in-Wrong.is (sym c.if-is_normal.false ∙ c.is_normal.ensures) counts
    (c.tick-else-is_normal.ensures.full mode counts)
