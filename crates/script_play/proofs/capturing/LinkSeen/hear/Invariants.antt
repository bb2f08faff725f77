-- The octets so far were received.
use Rattle.std.proofs.Common.{Bool, ℕ, List, Option, take}
use Rattle.line_streams.specs.declared.seen.Seen.{Seen}
use Rattle.script_play.specs.Captured.{IsCapturing}
use Rattle.script_play.proofs.Capturings.{HeardSoFar}
use Rattle.script_play.proofs.capturing.LinkSeen.hear.Given as goal

abbrev pub invariant-loop-octet : goal.invariant-loop-octet
invariant-loop-octet g l =
    (every : Bool) (came : List ℕ) (ss : List Seen) (begun : Option (List ℕ)) → IsCapturing l.link every came ss begun (g.T.Write.contents l.initial.out) l.initial.self
    → HeardSoFar l.link l.at every came (take l.octet-index l.octets) ss begun (g.T.Write.contents l.out) l.self
