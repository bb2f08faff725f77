use Rattle.std.proofs.Common.{ap, option_map}
use Rattle.std.proofs.lemmas.Result.{IfOk-weaker}
use Rattle.script_links.specs.GroupCommands.{plain_group_command}
use Rattle.script_seen.specs.TracingGroups.{IsToldBy}
use Rattle.script_seen.proofs.SetMessages.{message_as, word_as}
use Rattle.script_seen.proofs.changeovers.changeover_text.Goals as goal

pub returns-in-Message : goal.returns-in-Message
returns-in-Message c =
    IfOk-weaker c.both_text.result _ (λ v. IsToldBy c.args.clock (plain_group_command c.args.command.now) (option_map (λ l. l.items) c.args.last.now) v.items)
    (λ v told. message_as c.args.clock _ c.in-Message.octets.items c.deref.result.now _ v.items (ap plain_group_command c.in-Message.is) c.deref.ensures.value told)
    c.both_text.ensures

pub returns-in-Own : goal.returns-in-Own
returns-in-Own c =
    IfOk-weaker c.word_text.result _ (λ v. IsToldBy c.args.clock (plain_group_command c.args.command.now) (option_map (λ l. l.items) c.args.last.now) v.items)
    (λ v told. word_as c.args.clock _ c.in-Own.word _ v.items (ap plain_group_command c.in-Own.is) told) c.word_text.ensures
