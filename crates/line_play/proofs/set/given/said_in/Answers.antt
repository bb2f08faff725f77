use Rattle.std.proofs.Common.{IfOk, Option, sym, ap, subst, option_map, ◌≡◌, ◌∙◌}
use Rattle.script_lines.specs.Lines.{texts}
use Rattle.line_play.specs.SetGiven.{PlainSaid, plain_said, or_else, alone, naming}
use Rattle.line_play.specs.SetOrders.{PlainSetOrder, plain_set_order}
use Rattle.line_play.proofs.set.given.said_in.Goals as goal

pub returns-in-Some : goal.returns-in-Some
returns-in-Some c = ap (λ o. or_else (alone o) (naming (texts c.args.words.now))) (ap (option_map plain_set_order) (sym c.in-Some.is) ∙ c.in_ok-order.ensures)

pub returns-in-None : goal.returns-in-None
returns-in-None c =
    subst (λ (x : Option PlainSetOrder). IfOk c.said_with_links.result (λ o. option_map plain_said o ≡ or_else (alone x) (naming (texts c.args.words.now))))
    (ap (option_map plain_set_order) (sym c.in-None.is) ∙ c.in_ok-order.ensures) c.said_with_links.ensures
