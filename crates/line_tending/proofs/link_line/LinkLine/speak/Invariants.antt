use Rattle.std.proofs.Common.{◌≡◌}
use Rattle.line_tending.specs.Rounds.{Adds}
use Rattle.line_tending.specs.LinkLines.{Speaks}
use Rattle.line_tending.proofs.link_line.LinkLine.speak.Given as goal

abbrev pub invariant-loop-octet : goal.invariant-loop-octet
invariant-loop-octet l = record {
  speaks : Speaks l.link l._octet l.initial.tender l.initial.self.voice l.initial.out.items l.tender l.self.voice l.out.items;
  adds : Adds l.initial.tender l.tender;
  quiet : l.self.quiet ≡ l.initial.self.quiet;
}
