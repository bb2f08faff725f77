use Rattle.std.proofs.Common.{Some, ap, sym, ◌∙◌}
use Rattle.std.proofs.lemmas.Option.{same_Some}
use Rattle.bit_line.proofs.CountLaws as laws
use Rattle.bit_line.proofs.counter.Counter.tick.Goals as goal

pub returns-in-None-clause-counts : goal.returns-in-None-clause-counts
returns-in-None-clause-counts c mode counts = laws.tick-begins c.args.begins mode c.args.self.now.count c.if-begins.true c.in-None.is counts

pub returns-in-None-clause-full : goal.returns-in-None-clause-full
returns-in-None-clause-full c mode counts = laws.tick-quiet mode c.args.self.now.count c.in-None.is counts

pub returns-in-None-2-clause-counts : goal.returns-in-None-2-clause-counts
returns-in-None-2-clause-counts c mode counts = laws.tick-idle c.args.begins mode c.args.self.now.count c.if-begins.false c.in-None.is counts

pub returns-in-None-2-clause-full : goal.returns-in-None-2-clause-full
returns-in-None-2-clause-full c mode counts = laws.tick-quiet mode c.args.self.now.count c.in-None.is counts

pub returns-in-Some-clause-counts : goal.returns-in-Some-clause-counts
returns-in-Some-clause-counts c mode counts =
    laws.tick-wraps c.args.begins mode c.args.self.now.count (c.in-Some.is ∙ ap Some c.if-n-eq127.true) counts

pub returns-in-Some-clause-full : goal.returns-in-Some-clause-full
returns-in-Some-clause-full c mode counts = laws.tick-full mode c.args.self.now.count (c.in-Some.is ∙ ap Some c.if-n-eq127.true) counts

pub returns-in-Some-2-clause-counts : goal.returns-in-Some-2-clause-counts
returns-in-Some-2-clause-counts c mode counts = laws.tick-more c.args.begins mode c.args.self.now.count c.in-Some-2.n c.in-Some-2.is (λ e. c.if-n-eq127.false (same_Some _ _ (sym c.in-Some.is ∙ c.in-Some-2.is) ∙ e)) counts

pub returns-in-Some-2-clause-full : goal.returns-in-Some-2-clause-full
returns-in-Some-2-clause-full c mode counts = laws.tick-more_quiet mode c.args.self.now.count c.in-Some-2.n c.in-Some-2.is (λ e. c.if-n-eq127.false (same_Some _ _ (sym c.in-Some.is ∙ c.in-Some-2.is) ∙ e)) counts
