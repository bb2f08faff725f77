use Rattle.std.proofs.Common.{◌∙◌}
use Rattle.line_filter.specs.Speaking.{fresh, silent}
use Rattle.line_tending.proofs.link_line.LinkLine.begin.Goals as goal

pub returns-else-not-whole-clause-gives : goal.returns-else-not-whole-clause-gives
returns-else-not-whole-clause-gives c =
    fresh c.in-Ok-Some.unit c.requires (record { sent = rw c.in-Ok-Some.field-0-is at c.in-Ok-Some.ensures.ok; same = c.unit_out.ensures.same }) c.begin.ensures

pub returns-in-Ok-None-clause-gives : goal.returns-in-Ok-None-clause-gives
returns-in-Ok-None-clause-gives c =
    silent c.requires (record { sent = rw c.in-Ok-None.field-0-is at c.in-Ok-None.ensures.ok; same = c.unit_out.ensures.same }) (c.fall_silent.ensures.ready ∙ c.requires) c.fall_silent.ensures.fills
