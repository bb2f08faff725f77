use Rattle.std.proofs.Common.{Option, [], drop, ◌++◌, ◌≡◌}
use Rattle.sdl_ast.specs.Views.{answers_before, else_choice}
use Rattle.sdl_warnings.specs.Warned.{spent_answers}
use Rattle.sdl_ast.specs.declared.tree.Transition.{Transition}
use Rattle.sdl_warnings.proofs.decisions.push_answers.Given as goal

abbrev pub invariant-loop-answer : goal.invariant-loop-answer
invariant-loop-answer l =
    (o : Option Transition) → l.found.items ++ spent_answers l.earlier.items (answers_before (drop l.answer-index l.answers) (else_choice o)) ≡ l.initial.found.items ++ spent_answers [] (answers_before l.answers (else_choice o))
