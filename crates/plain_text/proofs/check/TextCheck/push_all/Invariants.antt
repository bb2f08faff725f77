-- All bytes so far were taken.
use Rattle.std.proofs.Common.{List, ℕ, ◌++◌, take}
use Rattle.plain_text.specs.Reading.{HasTaken}
use Rattle.plain_text.proofs.check.TextCheck.push_all.Given as goal

abbrev pub invariant-loop-byte : goal.invariant-loop-byte
invariant-loop-byte l = (bytes : List ℕ) → HasTaken l.initial.self bytes → HasTaken l.self (bytes ++ take l.byte-index l.part)
