use Rattle.std.proofs.Common.{◌≡◌, false}
use Rattle.std.specs.List.{list_any}
use Rattle.line_play.specs.SetGiven.{first_links}
use Rattle.line_play.specs.SetLeaving.{keeps_some}
use Rattle.line_play.proofs.set.leaving.any_keeps.Given as goal

-- none of the links so far
abbrev pub invariant-loop-link : goal.invariant-loop-link
invariant-loop-link l = list_any (keeps_some l.tender) (first_links l.link) ≡ false
