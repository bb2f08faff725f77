use Rattle.std.proofs.Common.{ap, ◌∙◌}
use Rattle.line_filter.specs.Reporting.{count_in}
use Rattle.line_filter.specs.declared.reports.Wait.TheVariants.{Message}
use Rattle.line_streams.proofs.backlog.Backlog.messages.Goals as goal

pub returns : goal.returns
returns c = c.self.invariant.messages_are ∙ ap (count_in Message) c.self.view_is
