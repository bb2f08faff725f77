use Rattle.std.proofs.Common.{sym, ◌∙◌}
use Rattle.std.proofs.lemmas.Result.{on_ok_weaker}
use Rattle.script_play.proofs.Charting.{nothing_noted, is_noted}
use Rattle.script_play.proofs.chart_rows.push_note.Goals as goal

pub returns-then-is_empty : goal.returns-then-is_empty
returns-then-is_empty c = λ lines is.
    nothing_noted c.args.set.now c.args.me lines c.args.rows.now.items c.args.text.now is (sym c.is_empty.ensures ∙ c.if-is_empty.true)

pub returns : goal.returns
returns c =
    on_ok_weaker c.push_beside.result (λ beside lines is.
    is_noted c.args.set.now c.args.me lines c.args.rows.now.items c.push_beside.new.rows.items c.args.text.now c.behind_two.result.now is
    (sym c.is_empty.ensures ∙ c.if-is_empty.false) c.behind_two.ensures beside) c.push_beside.ensures
