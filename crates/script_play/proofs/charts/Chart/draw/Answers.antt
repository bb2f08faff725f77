use Rattle.std.proofs.Common.{sym, ◌∙◌}
use Rattle.script_play.proofs.Charting.{not_drawn, is_drawn_too}
use Rattle.script_play.proofs.charts.Chart.draw.Goals as goal

pub returns-then-not-is_drawn : goal.returns-then-not-is_drawn
returns-then-not-is_drawn c = λ ts t is k. not_drawn c.args.set.now c.args.ended.now c.args.self.now (λ o ran. sym c.if-not-is_drawn.true ∙ c.is_drawn.ensures o ran) ts t is k

pub returns : goal.returns
returns c = λ ts t is k.
    is_drawn_too c.args.set.now c.args.ended.now c.args.self.now c.enter_all.new.self c.push_rows.new.self (λ o ran. sym c.if-not-is_drawn.false ∙ c.is_drawn.ensures o ran)
    c.in_ok-enter_all.ensures c.in_ok-push_rows.ensures.rows c.in_ok-push_rows.ensures.same ts t is k
