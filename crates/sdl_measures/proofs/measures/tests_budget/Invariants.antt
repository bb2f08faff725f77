use Rattle.std.proofs.Common.{◌≡◌, ℕ, take}
use Rattle.sdl_sound.specs.Longest.{tests_budget}
use Rattle.sdl_measures.specs.Measures.{capped}
use Rattle.sdl_measures.proofs.measures.tests_budget.Given as goal

abbrev pub invariant-loop-range : goal.invariant-loop-range
invariant-loop-range l = (b o : ℕ) → l.body ≡ capped b → l.others ≡ capped o → l.most ≡ capped (tests_budget (take l._range-index l.ranges) b o)
