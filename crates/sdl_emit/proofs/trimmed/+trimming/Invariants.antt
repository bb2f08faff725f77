use Rattle.std.proofs.Common.{◌≡◌, map, take}
use Rattle.std.specs.List.{flat_map}
use Rattle.sdl_ast.specs.Views.{plain_statement, plain_answer}
use Rattle.sdl_emit.specs.Trimmed.{trimmed_statement, trimmed_answer}
use Rattle.sdl_emit.proofs.trimmed.+trimming.Given as goal

abbrev pub invariant-trim_transition-loop-statement : goal.invariant-trim_transition-loop-statement
invariant-trim_transition-loop-statement l =
    map plain_statement l.statements.items ≡ flat_map trimmed_statement (map plain_statement (take l.statement-index l.statement-items))

abbrev pub invariant-trim_decision-loop-answer : goal.invariant-trim_decision-loop-answer
invariant-trim_decision-loop-answer l =
    map plain_answer l.answers.items ≡ map trimmed_answer (map plain_answer (take l.answer-index l.answer-items))
