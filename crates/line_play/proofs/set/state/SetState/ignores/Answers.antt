use Rattle.std.proofs.Common.{sym, string_bytes, ◌∙◌}
use Rattle.line_play.proofs.SetObeying.{never_ignored, ignored_so}
use Rattle.line_play.proofs.set.state.SetState.ignores.Goals as goal

pub returns-then-not-is_blank : goal.returns-then-not-is_blank
returns-then-not-is_blank c =
    never_ignored (string_bytes c.args.self.now.mark) c.args.text.now (λ none_there. c.is_blank.ensures.some c.if-not-is_blank.true (c.as_str.ensures.value ∙ none_there))

pub returns : goal.returns
returns c =
    ignored_so c.says_report.result (string_bytes c.args.self.now.mark) c.args.text.now (sym c.as_str.ensures.value ∙ c.is_blank.ensures.none c.if-not-is_blank.false)
    c.says_report.ensures
