use Rattle.std.proofs.Common.{◌≡◌, take}
use Rattle.sdl_rules.specs.Distinct.{HaveMarks, distinct}
use Rattle.sdl_rules.proofs.distinct.distinct_senders.Given as goal

abbrev pub invariant-loop-row : goal.invariant-loop-row
invariant-loop-row l = record {
  senders : l.senders.items ≡ distinct (take l.row-index l.rows);
  marks : HaveMarks l.senders.items l.marks.items;
}
