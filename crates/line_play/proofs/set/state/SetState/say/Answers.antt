use Rattle.std.proofs.Common.{ap, ◌∙◌, ◌++◌}
use Rattle.line_filter.specs.declared.reports.Wait.TheVariants.{Answer}
use Rattle.line_play.proofs.SetTelling.{told_as}
use Rattle.line_play.proofs.set.state.SetState.say.Goals as goal

pub returns : goal.returns
returns g c =
    told_as c.tell_kept.result _ _ Answer _ _ _ _ c.now.ensures
    (c.as_str.ensures.value ∙ (c.in_ok-line.ensures.ok ∙ ap (λ m. m ++ c.args.text.now) c.as_str-mark.ensures.value)) c.tell_kept.ensures
