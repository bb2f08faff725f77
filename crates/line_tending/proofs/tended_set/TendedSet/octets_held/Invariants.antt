use Rattle.std.proofs.Common.{◌≡◌, min, take, slice_get}
use Rattle.line_tending.specs.Cares.{LAST}
use Rattle.line_tending.specs.Sending.{octets_in, held_by}
use Rattle.line_tending.proofs.tended_set.TendedSet.octets_held.Given as goal

abbrev pub invariant-loop-place : goal.invariant-loop-place
invariant-loop-place l = l.octets ≡ min LAST (octets_in (take l.place (held_by (slice_get l.self.set.links l.link))))
