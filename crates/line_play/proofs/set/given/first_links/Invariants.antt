use Rattle.std.proofs.Common.{◌≡◌}
use Rattle.line_play.specs.SetGiven.{first_links}
use Rattle.line_play.proofs.set.given.first_links.Given as goal

abbrev pub invariant-loop-link : goal.invariant-loop-link
invariant-loop-link l = l.links.items ≡ first_links l.link
