use Rattle.std.proofs.Common.{◌≡◌, List, length}
use Rattle.m3ua_frames.specs.Parameters.{Parameter, AreParameters, value_of}
use Rattle.m3ua_frames.proofs.parameters.find.Given as goal

-- the parameters before the rest have other tags
abbrev pub invariant-loop-rest : goal.invariant-loop-rest
invariant-loop-rest l = (ps : List Parameter) → AreParameters l.octets ps → (qs : List Parameter) × AreParameters l.rest qs × (value_of l.tag ps ≡ value_of l.tag qs)

abbrev pub decreases-loop-rest : goal.decreases-loop-rest
decreases-loop-rest l = length l.rest
