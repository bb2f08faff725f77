use Rattle.std.specs.Prelude.{string_bytes}
use Rattle.std.proofs.lemmas.Result.{IfOk-weaker}
use Rattle.mtp2_play.proofs.Comparing.{says_yes, says_no}
use Rattle.mtp2_play.proofs.text.diff.terminal_word.Goals as goal

pub returns-in-Ok : goal.returns-in-Ok
returns-in-Ok c = IfOk-weaker c.from_str.result _ _ (λ t is. says_yes c.args.set.now (string_bytes t) is c.in-Ok.ensures.all) c.from_str.ensures.ok

pub returns-in-Err : goal.returns-in-Err
returns-in-Err c =
    IfOk-weaker c.format.result _ _ (λ t is. says_no c.args.set.now c.in-Err.name (string_bytes t) is c.in-Err.ensures.err) c.format.ensures.ok
