use Rattle.std.proofs.Common.{◌≡◌, List, drop}
use Rattle.m3ua_frames.specs.Parameters.{Parameter, AreParameters}
use Rattle.m3ua_frames.specs.Frame.{has_all}
use Rattle.m3ua_frames.proofs.frames.has_all.Given as goal

abbrev pub invariant-loop-tag : goal.invariant-loop-tag
invariant-loop-tag l = (ps : List Parameter) → AreParameters l.parameters ps → has_all l.tags ps ≡ has_all (drop l.tag-index l.tags) ps
