use Rattle.std.proofs.Common.{◌≤◌, length}
use Rattle.m3ua_frames.proofs.ParameterLaws.{SameValues}
use Rattle.m3ua_frames.proofs.parameters.find_next.Given as goal

-- the parameters before the rest have other tags
abbrev pub invariant-loop-rest : goal.invariant-loop-rest
invariant-loop-rest l = SameValues l.tag l.octets l.rest × (length l.rest ≤ length l.octets)

abbrev pub decreases-loop-rest : goal.decreases-loop-rest
decreases-loop-rest l = length l.rest
