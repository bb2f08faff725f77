use Rattle.std.proofs.Common.{ap, string_bytes, ◌∙◌}
use Rattle.mtp2_play.specs.SetBegins.{begin_text}
use Rattle.mtp2_play.proofs.Beginning.{begins_so}
use Rattle.mtp2_play.proofs.set.beginning.tell_begin.Goals as goal

pub returns : goal.returns
returns g c =
    begins_so c.tell_kept.result _ _ (string_bytes c.in_ok-date.date) c.args.origin.now.name.now (string_bytes c.args.origin.now.sum) _ _ c.as_str.ensures.value
    (c.in_ok-line.ensures.ok ∙ ap (λ s. begin_text (string_bytes c.in_ok-date.date) c.args.origin.now.name.now s) c.as_str-sum.ensures.value) c.tell_kept.ensures
