use Rattle.std.proofs.Common.{ap, option_map}
use Rattle.std.proofs.lemmas.Result.{IfOk-weaker}
use Rattle.script_seen.specs.TracingGroups.{IsLastTold}
use Rattle.script_seen.proofs.SetMessages.{last_as, last_none}
use Rattle.script_seen.proofs.changeovers.last_text.Goals as goal

pub returns-in-Some : goal.returns-in-Some
returns-in-Some c =
    IfOk-weaker c.said_text.result _ (λ v. IsLastTold c.args.clock (option_map (λ l. l.items) c.args.last.now) v.items)
    (λ v told. last_as c.args.clock _ c.in-Some.line.items c.deref.result.now v.items (ap (option_map (λ l. l.items)) c.in-Some.is) c.deref.ensures.value told)
    c.said_text.ensures

pub returns-in-None : goal.returns-in-None
returns-in-None c = last_none c.args.clock _ _ (ap (option_map (λ l. l.items)) c.in-None.is) c.new.ensures.items
