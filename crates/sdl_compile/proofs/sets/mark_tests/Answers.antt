use Rattle.std.proofs.Common.{◌++◌, ◌∙◌, ap}
use Rattle.sdl_ast.specs.declared.tree.Decision.{out-Decision}
use Rattle.sdl_ast.specs.Views.{else_choice}
use Rattle.sdl_compile.specs.Facts.{ranges_sets}
use Rattle.sdl_compile.proofs.Marking.{tests_loop}
use Rattle.sdl_compile.proofs.sets.mark_tests.Goals as goal

pub loop-answer-preserved : goal.loop-answer-preserved
loop-answer-preserved c =
    let old = c.loop-answer.sets.items in
    tests_loop c.args.set c.deref-answer-items.result.now c.loop-answer.answer-index c.answer-item.result (else_choice (out-Decision c.args.decision.now).otherwise)
    old c.mark_ranges.new.sets.items _ c.loop-answer-test.true c.answer-item.is c.loop-answer.invariant
    (c.in_ok-mark_ranges.ensures ∙ ap (λ rs. old ++ ranges_sets c.args.set rs) c.deref.ensures.value)
