use Rattle.std.proofs.Common.{take}
use Rattle.sdl_rules.specs.Distinct.{HaveMarks}
use Rattle.sdl_rules.proofs.distinct.mark_row.Given as goal

abbrev pub invariant-loop-sender : goal.invariant-loop-sender
invariant-loop-sender l = HaveMarks (take l.sender-index l.sender-items) l.marks.items
