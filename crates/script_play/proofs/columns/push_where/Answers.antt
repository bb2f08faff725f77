use Rattle.std.proofs.Common.{sym, ◌∙◌}
use Rattle.std.proofs.lemmas.Result.{on_ok_weaker}
use Rattle.script_play.proofs.Charting.{chosen_one, chosen_none}
use Rattle.script_play.proofs.columns.push_where.Goals as goal

pub returns-then-has : goal.returns-then-has
returns-then-has c =
    on_ok_weaker c.push_column.result (λ more. chosen_one c.args.set.now c.args.actors.now c.args.actor c.args.columns.now c.push_column.new.columns
    (sym c.has.ensures ∙ c.if-has.true) more) c.push_column.ensures

pub returns : goal.returns
returns c = chosen_none c.args.set.now c.args.actors.now c.args.actor c.args.columns.now (sym c.has.ensures ∙ c.if-has.false)
