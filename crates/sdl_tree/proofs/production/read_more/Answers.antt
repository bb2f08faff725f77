use Rattle.std.proofs.Common.{sym, ◌∙◌}
use Rattle.std.proofs.lemmas.Result.{err_from_is_err_and}
use Rattle.sdl_lex.specs.declared.lexemes.Symbol.TheVariants.{Comma}
use Rattle.sdl_productions.specs.Tokens.{a_symbol}
use Rattle.sdl_productions.specs.Readings.{behind_comma}
use Rattle.sdl_productions.proofs.RowLemmas.{row_turn, row_done, row_stops, shortens_behind_comma}
use Rattle.sdl_tree.proofs.production.read_more.Goals as goal

pub returns-in_err-item : goal.returns-in_err-item
returns-in_err-item g c =
    let p = err_from_is_err_and c.from_residual-in_err-item.result c.from_residual-in_err-item.ensures.1 in
    rw (p.1, p.2)
    (row_stops (a_symbol Comma) (behind_comma g.T.Production.reading) _ _ c.rows.rest.now c.in_err-item.field-0.0
    (sym c.stands_next.ensures ∙ c.rows-test.true) c.in_err-item.ensures c.rows.invariant)

pub rows-preserved : goal.rows-preserved
rows-preserved g c =
    row_turn (a_symbol Comma) (behind_comma g.T.Production.reading) g.T.Production.view _ c.rows.items.items _ c.in_ok-item.item c.rows.rest.now c.in_ok-item.after.now
    (shortens_behind_comma g.T.Production.reading g.met.T.Production.never_longer) (sym c.stands_next.ensures ∙ c.rows-test.true) c.in_ok-item.ensures c.in_ok-push-2.ensures.ok c.rows.invariant

pub returns : goal.returns
returns g c = row_done (a_symbol Comma) (behind_comma g.T.Production.reading) _ _ c.rows.rest.now (sym c.stands_next.ensures ∙ c.rows-test.false) c.rows.invariant
