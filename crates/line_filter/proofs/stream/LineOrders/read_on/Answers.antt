use Rattle.std.proofs.Common.{ap, take, rules}
use Rattle.line_filter.proofs.Leaving.{read_to_end}
use Rattle.line_filter.proofs.stream.LineOrders.read_on.Goals as goal

pub returns-in-Ok-eq0 : goal.returns-in-Ok-eq0
returns-in-Ok-eq0 g c =
    read_to_end c.args.self.now.lines _ _ c.requires.looked c.requires.none (rw (ap (λ n. take n c.read.new.buf) c.in-Ok-eq0.field-0-test) at c.in-Ok-eq0.ensures.bytes.0)
    (c.in-Ok-eq0.ensures.bytes.1 c.in-Ok-eq0.field-0-test (search rules))
