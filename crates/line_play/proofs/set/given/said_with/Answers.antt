use Rattle.std.proofs.Common.{IfOk, Option, sym, ap, subst, option_map, ◌≡◌, ◌∙◌}
use Rattle.script_lines.specs.Lines.{texts}
use Rattle.line_play.specs.SetGiven.{PlainWhom, plain_said, plain_whom, with_links}
use Rattle.line_play.specs.SetOrders.{set_order_of}
use Rattle.line_play.proofs.SetGiven.{with_none}
use Rattle.line_play.proofs.set.given.said_with.Goals as goal

pub returns-in-Some : goal.returns-in-Some
returns-in-Some c =
    subst (λ (w : Option PlainWhom). IfOk c.said_for.result (λ o. option_map plain_said o ≡ with_links (set_order_of (texts c.args.own.now)) w))
    (ap (option_map plain_whom) (sym c.in-Some.is) ∙ c.in_ok-whom.ensures) c.said_for.ensures

pub returns-in-None : goal.returns-in-None
returns-in-None c =
    sym (with_none (set_order_of (texts c.args.own.now)))
    ∙ ap (λ w. with_links (set_order_of (texts c.args.own.now)) w) (ap (option_map plain_whom) (sym c.in-None.is) ∙ c.in_ok-whom.ensures)
