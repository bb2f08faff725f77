use Rattle.std.proofs.Common.{IfOk, Option, sym, ap, subst, option_map, ◌≡◌, ◌∙◌}
use Rattle.script_lines.specs.Lines.{texts}
use Rattle.line_play.specs.SetGiven.{PlainSaid, plain_said, or_else, said_at}
use Rattle.line_play.proofs.set.given.said_short.Goals as goal

pub returns-in-Some : goal.returns-in-Some
returns-in-Some c = ap (λ o. or_else o (said_at 2 (texts c.args.words.now))) (ap (option_map plain_said) (sym c.in-Some.is) ∙ c.in_ok-said.ensures)

pub returns-in-None : goal.returns-in-None
returns-in-None c =
    subst (λ (x : Option PlainSaid). IfOk c.said_at-in-None.result (λ o. option_map plain_said o ≡ or_else x (said_at 2 (texts c.args.words.now))))
    (ap (option_map plain_said) (sym c.in-None.is) ∙ c.in_ok-said.ensures) c.said_at-in-None.ensures
