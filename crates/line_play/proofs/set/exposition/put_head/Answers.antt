use Rattle.std.proofs.Common.{◌∙◌}
use Rattle.line_play.proofs.SetExposing.{pushed}
use Rattle.line_play.proofs.set.exposition.put_head.Goals as goal

pub returns : goal.returns
returns c = pushed c.push_str.result _ _ _ _ (c.as_str.ensures.value ∙ c.in_ok-lines.ensures.ok) c.push_str.ensures.bytes
