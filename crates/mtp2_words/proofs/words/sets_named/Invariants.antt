use Rattle.std.proofs.Common.{map, take}
use Rattle.mtp2_words.specs.Asked.{AreNamed}
use Rattle.mtp2_words.proofs.words.sets_named.Given as goal

abbrev pub invariant-loop-word : goal.invariant-loop-word
invariant-loop-word l = AreNamed l.sets.items (map (λ w. w.now) (take l.word-index l.words))
