use Rattle.line_filter.specs.Streams.{left_in}
use Rattle.line_filter.proofs.Looking.{begun}
use Rattle.line_filter.proofs.lines.OrderLines.new.Goals as goal

pub returns : goal.returns
unfolding left_in
returns c more = begun c.new.result.items c.new-2.result.items more c.new.ensures.items c.new-2.ensures.items
