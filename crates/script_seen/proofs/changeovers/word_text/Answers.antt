use Rattle.std.proofs.Common.{option_map}
use Rattle.std.proofs.lemmas.Result.{IfOk-weaker}
use Rattle.script_seen.specs.TracingGroups.{IsWordTold}
use Rattle.script_seen.proofs.SetMessages.{fail_as}
use Rattle.script_seen.proofs.changeovers.word_text.Goals as goal

pub returns-in-Fail : goal.returns-in-Fail
returns-in-Fail c =
    IfOk-weaker c.last_text.result _ (λ v. IsWordTold c.args.clock c.args.word (option_map (λ l. l.items) c.args.last.now) v.items)
    (λ v told. fail_as c.args.clock c.args.word _ v.items c.in-Fail.is told) c.last_text.ensures
