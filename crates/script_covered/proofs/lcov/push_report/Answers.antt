use Rattle.std.proofs.Common.{sym, subst}
use Rattle.std.proofs.lemmas.Result.{on_ok_weaker}
use Rattle.script_covered.specs.Lcov.{AreLines}
use Rattle.script_covered.proofs.Printing.{three_pieces}
use Rattle.script_covered.proofs.lcov.push_report.Goals as goal

pub returns : goal.returns
returns c =
    let text = c.args.text.now in
    on_ok_weaker c.push_lines.result
    (λ last. three_pieces _ _ _ _ _ _ _
    (c.in_ok-push_rows.ensures text (subst (AreLines text) (sym c.deref.ensures.value) c.in_ok-lines.ensures))
    (c.in_ok-push_answers.ensures text (subst (AreLines text) (sym c.deref-2.ensures.value) c.in_ok-lines.ensures))
    (last text (subst (AreLines text) (sym c.deref-3.ensures.value) c.in_ok-lines.ensures))) c.push_lines.ensures
