use Rattle.std.proofs.Common.{◌≡◌, ◌++◌, drop}
use Rattle.sdl_ast.specs.declared.tree.Decision.{out-Decision}
use Rattle.sdl_ast.specs.Views.{choice_of, answers_before, else_choice}
use Rattle.sdl_emit.specs.Landing.{tests_by}
use Rattle.sdl_emit.proofs.ranges.emit_tests.Given as goal

abbrev pub invariant-loop-number : goal.invariant-loop-number
invariant-loop-number l =
    l.code.items ++ tests_by (drop l.number l.starts) (answers_before (drop l.number l.answer-items) (else_choice (out-Decision l.decision).otherwise))
    ≡ l.initial.code.items ++ tests_by l.starts (choice_of l.decision)
