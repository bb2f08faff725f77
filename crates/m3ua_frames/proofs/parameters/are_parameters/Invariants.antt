use Rattle.std.proofs.Common.{length}
use Rattle.m3ua_frames.proofs.ParameterLaws.{Good}
use Rattle.m3ua_frames.proofs.parameters.are_parameters.Given as goal

-- the octets are parameters if and only if the rest are
abbrev pub invariant-loop-rest : goal.invariant-loop-rest
invariant-loop-rest l = (Good l.rest → Good l.octets) × (Good l.octets → Good l.rest)

abbrev pub decreases-loop-rest : goal.decreases-loop-rest
decreases-loop-rest l = length l.rest
