use Rattle.std.proofs.Common.{◌+◌, ◌++◌, drop, ap, ◌∙◌}
use Rattle.sdl_ast.specs.declared.tree.Decision.{out-Decision}
use Rattle.sdl_ast.specs.Views.{text_of, choice_of, answers_before, else_choice}
use Rattle.sdl_meaning.specs.Code.{ranges_code}
use Rattle.sdl_emit.specs.Landing.{tests_by}
use Rattle.sdl_emit.proofs.Picking.{one_answer, tests_more}
use Rattle.sdl_emit.proofs.ranges.emit_tests.Goals as goal

pub loop-number-preserved : goal.loop-number-preserved
loop-number-preserved c =
    let list = c.deref-answer-items.result.now in
    let i = c.loop-number.number in
    let a = c.answer-item.result in
    let o = else_choice (out-Decision c.args.decision.now).otherwise in
    let is = one_answer list i a o c.loop-number-test.true c.answer-item.is in
    tests_more c.args.starts.now i (answers_before (drop i list) o) (answers_before (drop (i + 1) list) o) a.at a.ranges.items (text_of a.body) is
    c.start_at.result c.start_at.ensures c.loop-number.code.items c.emit_ranges.new.code.items (c.args.code.now.items ++ tests_by c.args.starts.now (choice_of c.args.decision.now)) (c.in_ok-emit_ranges.ensures ∙ ap (λ l. c.loop-number.code.items ++ ranges_code c.start_at.result.0 l) c.deref.ensures.value) c.loop-number.invariant
