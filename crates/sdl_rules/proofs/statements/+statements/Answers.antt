use Rattle.std.proofs.Common.{sym, subst, List, ◌∙◌, take_all}
use Rattle.std.specs.List.{flat_map}
use Rattle.sdl_ast.specs.declared.tree.Statement.{Statement}
use Rattle.sdl_ast.specs.declared.tree.Answer.{Answer}
use Rattle.sdl_ast.specs.declared.tree.Decision.{out-Decision}
use Rattle.sdl_ast.specs.Views.{tree_of, else_choice, block_of, process_of}
use Rattle.sdl_tables.specs.Scopes.{Marks}
use Rattle.sdl_rules.specs.Asked.{asked}
use Rattle.sdl_sound.specs.Parts.{statement_parts, answer_parts}
use Rattle.sdl_rules.proofs.Asking.{text_asked, answers_asked}
use Rattle.sdl_rules.proofs.statements.+statements.Goals as goal

pub in_transition-returns : goal.in_transition-returns
in_transition-returns t c = λ from h.
    let b = block_of c.args.block.now in
    let ask = asked c.args.rule b (process_of c.args.process.now) from in
    let items = take_all c.loop-statement.statement-index c.deref-statement-items.result.now c.loop-statement-test.false ∙ c.deref-statement-items.ensures.value in
    let all = subst (λ (ss : List Statement). Marks c.loop-statement.place (flat_map (λ s. flat_map ask (statement_parts s)) ss)) items (c.loop-statement.invariant from h) in
    subst (Marks c.earlier.result) (sym (text_asked ask c.args.transition.now)) (c.earlier.ensures _ _ all (c.in_end.ensures b from))

pub in_decision-returns : goal.in_decision-returns
in_decision-returns t c = λ from h.
    let b = block_of c.args.block.now in
    let ask = asked c.args.rule b (process_of c.args.process.now) from in
    let d = out-Decision c.args.decision.now in
    let q = tree_of d.question in
    let items = take_all c.loop-answer.answer-index c.deref-answer-items.result.now c.loop-answer-test.false ∙ c.deref-answer-items.ensures.value in
    let all = subst (λ (xs : List Answer). Marks c.loop-answer.place (flat_map (λ a. flat_map ask (answer_parts q a)) xs)) items (c.loop-answer.invariant from h) in
    let bodies = subst (Marks c.earlier-bodies.result) (sym (answers_asked ask q d.answers.items (else_choice d.otherwise))) (c.earlier-bodies.ensures _ _ all (c.in_else.ensures q from h)) in
    c.earlier-2.ensures _ _ (c.in_question-question.ensures b from) bodies
