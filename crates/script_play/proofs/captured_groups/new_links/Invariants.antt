-- The links made so far.
use Rattle.script_play.proofs.SetCaptures.{UnseenSoFar}
use Rattle.script_play.proofs.captured_groups.new_links.Given as goal

abbrev pub invariant-loop-link : goal.invariant-loop-link
invariant-loop-link l = UnseenSoFar l.every l._link l.links.items
