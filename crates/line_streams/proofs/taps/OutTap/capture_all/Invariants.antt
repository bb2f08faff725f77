-- The octets so far were captured.
use Rattle.std.proofs.Common.{take}
use Rattle.line_streams.proofs.Tapped.{Went}
use Rattle.line_streams.proofs.taps.OutTap.capture_all.Given as goal

abbrev pub invariant-loop-octet : goal.invariant-loop-octet
invariant-loop-octet g l = Went g.S.Write.contents (take l.octet-index l.octets) l.fn.self l.self
