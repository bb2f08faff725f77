use Rattle.std.proofs.Common.{◌≡◌, ◌-◌, ◌++◌, pos, length, take, drop, replicate}
use Rattle.turn_code.proofs.words.Words.taken.Given as goal

abbrev pub invariant-loop-place : goal.invariant-loop-place
invariant-loop-place l =
    (length l.words ≡ 4) × (l.words ≡ take l.place (drop l.first l.self.operands) ++ replicate (4 - l.place) (pos 0))
