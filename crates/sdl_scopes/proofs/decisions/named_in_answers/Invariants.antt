use Rattle.std.proofs.Common.{take}
use Rattle.std.specs.Prelude.{sum_by}
use Rattle.sdl_sound.specs.Decisions.{names_value}
use Rattle.sdl_scopes.specs.Times.{Counted}
use Rattle.sdl_scopes.proofs.decisions.named_in_answers.Given as goal

abbrev pub invariant-loop-answer : goal.invariant-loop-answer
invariant-loop-answer l = Counted l.times (sum_by (λ a. sum_by (names_value l.value) a.ranges.items) (take l.answer-index l.answers))
