use Rattle.std.proofs.Common.{◌≡◌, ◌++◌, drop}
use Rattle.sdl_ast.specs.declared.tree.Decision.{out-Decision}
use Rattle.sdl_ast.specs.Views.{choice_of, answers_before, else_choice}
use Rattle.sdl_compile.specs.Facts.{tests_sets}
use Rattle.sdl_compile.proofs.sets.mark_tests.Given as goal

abbrev pub invariant-loop-answer : goal.invariant-loop-answer
invariant-loop-answer l = l.sets.items ++ tests_sets l.set (answers_before (drop l.answer-index l.answer-items) (else_choice (out-Decision l.decision).otherwise)) ≡ l.initial.sets.items ++ tests_sets l.set (choice_of l.decision)
