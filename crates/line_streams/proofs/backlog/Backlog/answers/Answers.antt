use Rattle.std.proofs.Common.{ap, ◌∙◌}
use Rattle.line_filter.specs.Reporting.{count_in}
use Rattle.line_filter.specs.declared.reports.Wait.TheVariants.{Answer}
use Rattle.line_streams.proofs.backlog.Backlog.answers.Goals as goal

pub returns : goal.returns
returns c = c.self.invariant.answers_are ∙ ap (count_in Answer) c.self.view_is
