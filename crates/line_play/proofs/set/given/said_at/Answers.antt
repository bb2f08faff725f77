use Rattle.std.proofs.Common.{◌≡◌, ◌∙◌, option_map}
use Rattle.std.proofs.lemmas.Result.{IfOk-weaker}
use Rattle.script_lines.specs.Lines.{texts}
use Rattle.line_play.specs.SetGiven.{plain_said, said_at}
use Rattle.line_play.proofs.SetGiven.{parts_are, said_past}
use Rattle.line_play.proofs.set.given.said_at.Goals as goal

pub returns-then-is_short : goal.returns-then-is_short
returns-then-is_short c = said_past c.args.words.now c.args.own c.if-is_short.true

pub returns : goal.returns
returns c =
    IfOk-weaker c.said_with.result _ (λ o. option_map plain_said o ≡ said_at c.args.own (texts c.args.words.now))
    (λ o is. is ∙ parts_are c.args.words.now _ _ c.args.own c.split_at.ensures.front c.split_at.ensures.back) c.said_with.ensures
