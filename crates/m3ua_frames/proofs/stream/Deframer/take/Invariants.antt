use Rattle.std.proofs.Common.{◌≡◌, [], take}
use Rattle.m3ua_frames.specs.Stream.{reading_after, items_in}
use Rattle.m3ua_frames.proofs.stream.Deframer.take.Given as goal

-- the octets taken completed no item
abbrev pub invariant-loop-index : goal.invariant-loop-index
invariant-loop-index l = record {
  state : l.self ≡ reading_after l.initial.self (take l.index l.piece);
  items : items_in l.initial.self (take l.index l.piece) ≡ [];
}
