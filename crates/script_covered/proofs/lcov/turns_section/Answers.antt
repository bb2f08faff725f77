use Rattle.std.proofs.Common.{[], ◌∷◌, ◌++◌, ap, ◌∙◌, codes, arith}
use Rattle.script_covered.specs.Lcov.{named_line, turns_line, row_of}
use Rattle.script_covered.specs.declared.rows.Row.{Row}
use Rattle.script_covered.proofs.Printing.{items_more, line_as, rows_past}
use Rattle.script_covered.proofs.lcov.turns_section.Goals as goal

pub loop-row-preserved : goal.loop-row-preserved
loop-row-preserved c =
    let row = c.row-item.result in
    items_more (λ (r : Row). turns_line (row_of r)) (λ (r : Row). r.turns ∷ []) c.args.rows.now c.loop-row.row-index row c.loop-row.section c.push.new.self
    c.loop-row-test.true c.row-item.is c.loop-row.invariant
    (λ text ns h.
    line_as text _ _ _ c.push.new.self
    (c.deref-in-loop-row.ensures.value
    ∙ (c.in_ok-push_named.ensures
    ∙ (ap (λ l. l ++ named_line (codes "FNDA:") row.turns c.deref.result.now) c.new-line.ensures.items ∙ ap (named_line (codes "FNDA:") row.turns) c.deref.ensures.value)))
    (c.in_ok-push.ensures text ns h))

pub returns : goal.returns
returns c = rows_past c.args.rows.now c.loop-row.row-index c.loop-row.section (omega arith) c.loop-row.invariant
