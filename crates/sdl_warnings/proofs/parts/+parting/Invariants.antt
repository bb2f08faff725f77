use Rattle.std.proofs.Common.{drop, map, ◌++◌, ◌≡◌}
use Rattle.sdl_ast.specs.Views.{answers_before, choice_of, else_choice, end_text, statements_before, text_of, tree_of}
use Rattle.sdl_ast.specs.declared.tree.Decision.{out-Decision}
use Rattle.sdl_sound.specs.Statements.{choice_statements, statements_of}
use Rattle.sdl_warnings.specs.Standing.{part_of}
use Rattle.sdl_warnings.proofs.parts.+parting.Given as goal

abbrev pub invariant-push_parts-loop-statement : goal.invariant-push_parts-loop-statement
invariant-push_parts-loop-statement l =
    map part_of l.parts.items ++ statements_of (statements_before (drop l.statement-index l.statement-items) (end_text l.transition.end)) ≡ map part_of l.initial.parts.items ++ statements_of (text_of l.transition)

abbrev pub invariant-push_decision-loop-answer : goal.invariant-push_decision-loop-answer
invariant-push_decision-loop-answer l =
    map part_of l.parts.items ++ choice_statements (tree_of (out-Decision l.decision).question) (answers_before (drop l.answer-index l.answer-items) (else_choice (out-Decision l.decision).otherwise))
    ≡ map part_of l.initial.parts.items ++ choice_statements (tree_of (out-Decision l.decision).question) (choice_of l.decision)
