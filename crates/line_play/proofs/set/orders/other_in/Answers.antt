use Rattle.std.proofs.lemmas.Result.{IfOk-weaker}
use Rattle.std.specs.Prelude.{◌≡◌, option_map}
use Rattle.std.proofs.Common.{◌∙◌}
use Rattle.script_lines.specs.Lines.{texts}
use Rattle.line_play.specs.SetOrders.{plain_set_order, other_order_of}
use Rattle.line_play.proofs.SetOrders.{many_words}
use Rattle.line_play.proofs.set.orders.other_in.Goals as goal

pub returns-in-len3-up : goal.returns-in-len3-up
returns-in-len3-up c =
    IfOk-weaker c.asked_in.result _ (λ o. option_map plain_set_order o ≡ other_order_of (texts c.args.words.now))
    (λ o is. is ∙ many_words c.args.words.now c.in-len3-up.len_at_least) c.asked_in.ensures
