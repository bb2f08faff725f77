use Rattle.std.proofs.Common.{ap, ◌∙◌}
use Rattle.line_play.specs.SetExposing.{sample, shown}
use Rattle.line_play.proofs.SetExposing.{pushed}
use Rattle.line_play.proofs.set.state.SetState.put_value.Goals as goal

pub returns : goal.returns
returns c =
    pushed c.push_str.result _ _ _ _
    (c.as_str.ensures.value
    ∙ (c.in_ok-line.ensures.ok
    ∙ ap (sample c.args.series.name.now c.args.series.labels.now c.args.link) (c.in_ok-shown.ensures ∙ ap (shown c.args.series.value) c.number-number.ensures)))
    c.push_str.ensures.bytes
