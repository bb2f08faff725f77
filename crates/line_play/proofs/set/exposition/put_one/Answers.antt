use Rattle.std.proofs.Common.{◌∙◌}
use Rattle.line_play.proofs.SetExposing.{pushed, then_appended}
use Rattle.line_play.proofs.set.exposition.put_one.Goals as goal

pub returns : goal.returns
returns c =
    then_appended c.push_str.result _ _ _ _ _ c.in_ok-put_head.ensures
    (pushed c.push_str.result _ _ _ _ (c.as_str.ensures.value ∙ c.in_ok-line.ensures.ok) c.push_str.ensures.bytes)
