use Rattle.std.proofs.Common.{sym, ◌∙◌}
use Rattle.std.proofs.lemmas.Result.{err_from_is_err_and}
use Rattle.sdl_productions.proofs.RowLemmas.{row_turn, row_done, row_stops}
use Rattle.sdl_tree.proofs.production.read_many.Goals as goal

pub returns-in_err-item : goal.returns-in_err-item
returns-in_err-item g c =
    let p = err_from_is_err_and c.from_residual.result c.from_residual.ensures.1 in
    rw (p.1, p.2)
    (row_stops g.T.Listed.starts g.T.Production.reading _ _ c.rows.rest.now c.in_err-item.field-0.0
    (sym c.is_next.ensures ∙ c.rows-test.true) c.in_err-item.ensures c.rows.invariant)

pub rows-preserved : goal.rows-preserved
rows-preserved g c =
    row_turn g.T.Listed.starts g.T.Production.reading g.T.Production.view _ c.rows.items.items _ c.in_ok-item.item c.rows.rest.now c.in_ok-item.after.now
    g.met.T.Listed.shortens (sym c.is_next.ensures ∙ c.rows-test.true) c.in_ok-item.ensures c.in_ok-push.ensures.ok c.rows.invariant

pub returns : goal.returns
returns g c = row_done g.T.Listed.starts g.T.Production.reading _ _ c.rows.rest.now (sym c.is_next.ensures ∙ c.rows-test.false) c.rows.invariant
