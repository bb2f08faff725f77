use Rattle.std.proofs.Common.{◌∙◌}
use Rattle.line_play.proofs.Turning.{same_rest, first_behind_none, none_at_all}
use Rattle.line_play.proofs.link.turns.without_held.Goals as goal

pub returns-in-Some-clause-turn : goal.returns-in-Some-clause-turn
returns-in-Some-clause-turn c =
    first_behind_none c.args.terminal.now c.report.new.self c.in-Some.first c.in-Some.ensures.report c.report.ensures.transceiver ∙ c.with_first.ensures.turn

pub returns-in-Some-clause-same : goal.returns-in-Some-clause-same
returns-in-Some-clause-same c = c.with_first.ensures.same ∙ same_rest c.args.terminal.now c.report.new.self c.report.ensures.transceiver

pub returns-in-None-clause-turn : goal.returns-in-None-clause-turn
returns-in-None-clause-turn c = none_at_all c.args.terminal.now c.report.new.self c.in-None.ensures.report c.report.ensures.transceiver

pub returns-in-None-clause-same : goal.returns-in-None-clause-same
returns-in-None-clause-same c = same_rest c.args.terminal.now c.report.new.self c.report.ensures.transceiver
