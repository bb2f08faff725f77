use Rattle.std.proofs.Common.{◌∙◌, List, map, ap, sym, refl, take_all}
use Rattle.std.specs.List.{flat_map}
use Rattle.sdl_ast.specs.declared.tree.Answer.{Answer}
use Rattle.sdl_ast.specs.declared.tree.Statement.{Statement}
use Rattle.sdl_ast.specs.Views.{plain_statement, plain_answer}
use Rattle.sdl_emit.specs.Trimmed.{trimmed_statement, trimmed_answer}
use Rattle.sdl_emit.proofs.Trimmings.{transition_trimmed, decision_trimmed}
use Rattle.sdl_emit.proofs.trimmed.+trimming.Goals as goal

pub trim_decision-returns : goal.trim_decision-returns
trim_decision-returns t c =
    let list = c.deref-answer-items.result.now in
    decision_trimmed c.args.given.now list c.in_ok-question.question c.loop-answer.answers c.in_ok-otherwise.otherwise (sym c.deref-answer-items.ensures.value) c.in_ok-question.ensures
    (c.loop-answer.invariant ∙ ap (λ (l : List Answer). map trimmed_answer (map plain_answer l)) (take_all c.loop-answer.answer-index list c.loop-answer-test.false))
    c.in_ok-otherwise.ensures

pub trim_transition-returns : goal.trim_transition-returns
trim_transition-returns t c =
    let list = c.deref-statement-items.result.now in
    transition_trimmed c.args.given.now _ list (sym c.deref-statement-items.ensures.value)
    (c.loop-statement.invariant ∙ ap (λ (l : List Statement). flat_map trimmed_statement (map plain_statement l)) (take_all c.loop-statement.statement-index list c.loop-statement-test.false))
    refl
