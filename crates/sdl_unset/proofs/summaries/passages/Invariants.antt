use Rattle.std.proofs.Common.{take}
use Rattle.sdl_unset.specs.Flows.{ArePassages}
use Rattle.sdl_unset.proofs.Summing.{AreBelow}
use Rattle.sdl_unset.proofs.summaries.passages.Given as goal

abbrev pub invariant-loop-state : goal.invariant-loop-state
invariant-loop-state l = ArePassages (take l.state l.masks) l.passages.items × AreBelow l.passages.items l.state
