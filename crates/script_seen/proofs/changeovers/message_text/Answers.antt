use Rattle.std.proofs.Common.{sym, ap, ◌∙◌}
use Rattle.std.proofs.lemmas.Result.{IfOk-weaker}
use Rattle.script_seen.specs.TracedGroups.{message_text}
use Rattle.script_seen.specs.TracingGroups.{IsMessageTold}
use Rattle.script_seen.proofs.SetMessages.{message_told}
use Rattle.script_seen.proofs.changeovers.message_text.Goals as goal

pub returns-in-Some : goal.returns-in-Some
returns-in-Some c =
    IfOk-weaker c.message_line.result _ (λ v. IsMessageTold c.args.clock c.args.way.now c.args.octets.now v.items)
    (λ v is. message_told c.args.clock c.args.way.now c.args.octets.now v.items c.read_changeover.result c.read_changeover.ensures.exact
    (is ∙ ap (message_text c.args.clock c.args.way.now) (sym c.in-Some.is)))
    c.message_line.ensures

pub returns-in-None : goal.returns-in-None
returns-in-None c =
    message_told c.args.clock c.args.way.now c.args.octets.now _ c.read_changeover.result c.read_changeover.ensures.exact
    (c.new.ensures.items ∙ ap (message_text c.args.clock c.args.way.now) (sym c.in-None.is))
