use Rattle.std.proofs.Common.{take}
use Rattle.mtp2_play.specs.Warned.{AreTold}
use Rattle.mtp2_play.proofs.text.warned.push_all.Given as goal

abbrev pub invariant-loop-warning : goal.invariant-loop-warning
invariant-loop-warning l = AreTold l.name l.text l.tokens (take l.warning-index l.found) l.initial.told.items l.told.items
