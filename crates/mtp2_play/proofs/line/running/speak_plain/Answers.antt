use Rattle.line_streams.specs.Known.{known_of}
use Rattle.mtp2_play.proofs.Speaking.{with_orders}
use Rattle.mtp2_play.proofs.line.running.speak_plain.Goals as goal

pub returns-clause-spoke : goal.returns-clause-spoke
returns-clause-spoke g c zero =
    with_orders _ _ _ _ _ _ _ _ _ _ _ c.requires.given
    (c.serve-status.ensures.spoke (known_of c.args.desk.now.orders) c.requires.ordered (c.end_streams.ensures.zero zero))

pub returns-clause-begun : goal.returns-clause-begun
returns-clause-begun g c = c.serve-status.ensures.begun (known_of c.args.desk.now.orders) c.requires.given c.requires.ordered
