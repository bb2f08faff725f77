use Rattle.std.proofs.Common.{codes, refl, ap, ◌∙◌, ◌++◌, map, arith}
use Rattle.std.specs.List.{flat_map}
use Rattle.script_covered.specs.Lcov.{line_at, named_line, place_line, row_of}
use Rattle.script_covered.proofs.Pieces.{pieces_on, pieces_past}
use Rattle.script_covered.proofs.lcov.push_places.Goals as goal

pub loop-row-preserved : goal.loop-row-preserved
loop-row-preserved c = λ text are.
    let old = c.loop-row.out.items in
    pieces_on (λ n rows. flat_map (place_line text) (map row_of rows)) (λ n r. place_line text (row_of r)) (λ n r rows. refl) _ _ _ c.args.rows.now
    c.loop-row.row-index c.row-item.result c.loop-row-test.true c.row-item.is
    (c.in_ok-push_named.ensures
    ∙ (ap (λ n. old ++ named_line (codes "FN:") n c.deref.result.now) (c.line_at.ensures text are)
    ∙ ap (λ s. old ++ named_line (codes "FN:") (line_at text c.row-item.result.at) s) c.deref.ensures.value))
    (c.loop-row.invariant text are)

pub returns : goal.returns
returns c = λ text are.
    pieces_past (λ n rows. flat_map (place_line text) (map row_of rows)) _ _ c.args.rows.now c.loop-row.row-index refl (omega arith) (c.loop-row.invariant text are)
