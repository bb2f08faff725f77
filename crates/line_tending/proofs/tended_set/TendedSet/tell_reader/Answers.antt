use Rattle.std.proofs.Common.{refl}
use Rattle.line_tending.proofs.Reading.{news_same, news_so}
use Rattle.line_tending.proofs.tended_set.TendedSet.tell_reader.Goals as goal

pub returns-then-busy : goal.returns-then-busy
returns-then-busy c = news_same c.args.self.now c.args.was_busy c.args.busy (rw (c.if-was_busy.true, c.if-busy.true) refl)

pub returns-then-was_busy : goal.returns-then-was_busy
returns-then-was_busy c = news_so c.tell_news.result c.args.self.now c.tell_news.new.self c.args.was_busy c.args.busy _ (rw (c.if-was_busy.true, c.if-busy.false) refl) c.tell_news.ensures

pub returns-then-busy-2 : goal.returns-then-busy-2
returns-then-busy-2 c = news_so c.tell_news-then-busy-2.result c.args.self.now c.tell_news-then-busy-2.new.self c.args.was_busy c.args.busy _ (rw (c.if-was_busy.false, c.if-busy-2.true) refl) c.tell_news-then-busy-2.ensures

pub returns : goal.returns
returns c = news_same c.args.self.now c.args.was_busy c.args.busy (rw (c.if-was_busy.false, c.if-busy-2.false) refl)
