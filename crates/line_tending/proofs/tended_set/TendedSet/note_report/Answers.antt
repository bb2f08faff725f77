use Rattle.std.proofs.Common.{◌∙◌, sym}
use Rattle.line_tending.proofs.Reading.{ended_not, ended_so}
use Rattle.line_tending.proofs.tended_set.TendedSet.note_report.Goals as goal

pub returns-then-not-is_down : goal.returns-then-not-is_down
returns-then-not-is_down c =
    ended_not c.args.self.now (record { link = c.args.link; report = c.args.report.now }) (sym c.is_down.ensures ∙ c.if-not-is_down.true)

pub returns : goal.returns
returns c =
    ended_so c.args.self.now c.end_order.new.self (record { link = c.args.link; report = c.args.report.now }) (sym c.is_down.ensures ∙ c.if-not-is_down.false)
    c.end_order.ensures
