-- The octets were received as many times as iterations have run.
use Rattle.std.proofs.Common.{Bool, ℕ, List, Option}
use Rattle.line_streams.specs.declared.seen.Seen.{Seen}
use Rattle.script_play.specs.Captured.{repeated, IsCapturing}
use Rattle.script_play.proofs.Capturings.{HeardSoFar}
use Rattle.script_play.proofs.capturing.LinkSeen.hear_times.Given as goal

abbrev pub invariant-loop-time : goal.invariant-loop-time
invariant-loop-time g l =
    (every : Bool) (came : List ℕ) (ss : List Seen) (begun : Option (List ℕ)) → IsCapturing l.link every came ss begun (g.T.Write.contents l.initial.out) l.initial.self
    → HeardSoFar l.link l.at every came (repeated l._time l.octets) ss begun (g.T.Write.contents l.out) l.self
