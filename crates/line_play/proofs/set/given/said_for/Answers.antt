use Rattle.std.proofs.Common.{Some, sym, ap, option_map, ◌∙◌}
use Rattle.line_play.specs.SetGiven.{plain_whom, with_links}
use Rattle.line_play.specs.SetOrders.{plain_set_order}
use Rattle.line_play.proofs.set.given.said_for.Goals as goal

pub returns-in-Some : goal.returns-in-Some
returns-in-Some c =
    c.with_links.ensures ∙ ap (λ o. with_links o (Some (plain_whom c.args.whom))) (ap (option_map plain_set_order) (sym c.in-Some.is) ∙ c.in_ok-order.ensures)

pub returns-in-None : goal.returns-in-None
returns-in-None c = ap (λ o. with_links o (Some (plain_whom c.args.whom))) (ap (option_map plain_set_order) (sym c.in-None.is) ∙ c.in_ok-order.ensures)
