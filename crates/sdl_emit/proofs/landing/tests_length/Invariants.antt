use Rattle.std.proofs.Common.{◌≡◌, ◌+◌, drop}
use Rattle.sdl_ast.specs.declared.tree.Decision.{out-Decision}
use Rattle.sdl_ast.specs.Views.{choice_of, answers_before, else_choice}
use Rattle.sdl_sound.specs.Longest.{tests_size}
use Rattle.sdl_emit.proofs.landing.tests_length.Given as goal

abbrev pub invariant-loop-answer : goal.invariant-loop-answer
invariant-loop-answer l = l.total + tests_size (answers_before (drop l.answer-index l.answer-items) (else_choice (out-Decision l.decision).otherwise)) ≡ tests_size (choice_of l.decision)
