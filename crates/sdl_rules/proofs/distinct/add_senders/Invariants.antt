use Rattle.std.proofs.Common.{◌≡◌, fold, take}
use Rattle.sdl_rules.specs.Distinct.{add_sender, HaveMarks}
use Rattle.sdl_rules.proofs.distinct.add_senders.Given as goal

abbrev pub invariant-loop-sender : goal.invariant-loop-sender
invariant-loop-sender l = record {
  senders : l.senders.items ≡ fold add_sender l.initial.senders.items (take l.sender-index l.row);
  marks : HaveMarks l.senders.items l.marks.items;
}
