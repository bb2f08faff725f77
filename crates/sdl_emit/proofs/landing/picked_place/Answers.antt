use Rattle.std.proofs.Common.{◌+◌, drop, sym, ap, ◌∙◌}
use Rattle.std.specs.List.{list_any}
use Rattle.sdl_ast.specs.declared.tree.Decision.{out-Decision}
use Rattle.sdl_ast.specs.Views.{text_of, answers_before, else_choice}
use Rattle.sdl_meaning.specs.Code.{names_truth}
use Rattle.sdl_emit.proofs.Picking.{one_answer, picked_skip}
use Rattle.sdl_emit.proofs.landing.picked_place.Goals as goal

pub loop-number-preserved : goal.loop-number-preserved
loop-number-preserved c =
    let list = c.deref-answer-items.result.now in
    let i = c.loop-number.number in
    let a = c.answer-item.result in
    let o = else_choice (out-Decision c.args.decision.now).otherwise in
    let is = one_answer list i a o c.loop-number-test.true c.answer-item.is in
    sym (picked_skip c.args.otherwise c.args.starts.now i (answers_before (drop i list) o) (answers_before (drop (i + 1) list) o) a.at a.ranges.items (text_of a.body) c.args.value is (sym (c.any_names.ensures ∙ ap (list_any (names_truth c.args.value)) c.deref.ensures.value) ∙ c.if-any_names.false)) ∙ c.loop-number.invariant
