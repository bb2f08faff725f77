use Rattle.line_filter.specs.Filters.{turned}
use Rattle.line_filter.proofs.Passing.{turned_next}
use Rattle.line_filter.proofs.filter.Bits.turn_all.Goals as goal

pub loop-octet-preserved : goal.loop-octet-preserved
loop-octet-preserved c =
    turned_next (turned c.args.self) c.args.octets.now c.loop-octet.octets c.loop-octet.octet-index c.turn.result c.loop-octet-test.true c.loop-octet.invariant c.turn.ensures
