use Rattle.std.proofs.Common.{sym, ap, option_map, ◌∙◌}
use Rattle.std.specs.Prelude.{option_and_then}
use Rattle.line_play.specs.SetOrders.{send_of}
use Rattle.line_play.proofs.set.orders.send_in.Goals as goal

pub returns-in-Some : goal.returns-in-Some
returns-in-Some c = c.sent.ensures ∙ ap (option_and_then send_of) (ap (option_map (λ v. v.items)) (sym c.in-Some.is) ∙ c.in_ok-octets.ensures)

pub returns-in-None : goal.returns-in-None
returns-in-None c = ap (option_and_then send_of) (ap (option_map (λ v. v.items)) (sym c.in-None.is) ∙ c.in_ok-octets.ensures)
