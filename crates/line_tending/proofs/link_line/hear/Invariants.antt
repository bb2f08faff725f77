use Rattle.line_tending.proofs.Speaking.{HeardSoFar}
use Rattle.line_tending.proofs.link_line.hear.Given as goal

abbrev pub invariant-loop-part : goal.invariant-loop-part
invariant-loop-part l = HeardSoFar l.link l.initial.tender l.octets l.rest l.tender
