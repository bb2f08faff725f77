use Rattle.std.proofs.Common.{rules}
use Rattle.std.specs.Prelude.{IsUtf8}
use Rattle.std.proofs.lemmas.Result.{IfErr-weaker}
use Rattle.turn_verify.specs.Blocks.{MatchesBlock}
use Rattle.script_check.proofs.Long.{load_refused}
use Rattle.script_check.proofs.sets.text_set.Goals as goal

pub returns-in-Ok-clause-fault : goal.returns-in-Ok-clause-fault
returns-in-Ok-clause-fault c = IfErr-weaker c.with_limits.result _ _ (λ e h judged. absurd (h judged)) c.with_limits.ensures.fault

pub returns-in-Err-clause-fault : goal.returns-in-Err-clause-fault
returns-in-Err-clause-fault c =
    let utf8 : IsUtf8 c.args.text.now = search rules in
    load_refused c.args.text.now c.in-Err.fault MatchesBlock utf8 c.in-Err.ensures.refused c.in-Err.ensures.exact
