use Rattle.std.proofs.Common.{◌≡◌, map, take}
use Rattle.sdl_ast.specs.Views.{plain_answer, plain_statement}
use Rattle.sdl_rules.specs.Expansion.{expanded_answer, expanded_statement}
use Rattle.sdl_rules.specs.Views.{sight_of}
use Rattle.sdl_rules.proofs.transitions.+expanding.Given as goal

abbrev pub invariant-expand_transition-loop-statement : goal.invariant-expand_transition-loop-statement
invariant-expand_transition-loop-statement l =
    map plain_statement l.statements.items ≡ map (expanded_statement (sight_of l.sight)) (map plain_statement (take l.statement-index l.statement-items))

abbrev pub invariant-expand_decision-loop-answer : goal.invariant-expand_decision-loop-answer
invariant-expand_decision-loop-answer l =
    map plain_answer l.answers.items ≡ map (expanded_answer (sight_of l.sight)) (map plain_answer (take l.answer-index l.answer-items))
