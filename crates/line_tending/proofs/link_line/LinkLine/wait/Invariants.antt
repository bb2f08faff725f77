use Rattle.std.proofs.Common.{◌≡◌, ◌++◌, replicate}
use Rattle.line_tending.proofs.link_line.LinkLine.wait.Given as goal

abbrev pub invariant-loop-octet : goal.invariant-loop-octet
invariant-loop-octet l = l.out.items ≡ l.initial.out.items ++ replicate l._octet 255
