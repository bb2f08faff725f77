use Rattle.std.proofs.Common.{◌<◌, length, arith}
use Rattle.line_filter.specs.Streams.{MOST_OCTETS}
use Rattle.line_filter.proofs.Looking.{lengthened}
use Rattle.line_filter.proofs.lines.OrderLines.lengthen.Goals as goal

pub returns-else-len-le-MOST_OCTETS-clause-line : goal.returns-else-len-le-MOST_OCTETS-clause-line
returns-else-len-le-MOST_OCTETS-clause-line c since more =
    let long : MOST_OCTETS < length c.args.self.now.line.items = omega (arith, c.if-len-le-MOST_OCTETS.false, c.len.ensures, c.args.self.now.line.ok.0) in
    lengthened since c.args.self.now.line.items more c.args.octet long
