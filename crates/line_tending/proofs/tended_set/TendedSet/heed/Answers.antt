use Rattle.std.proofs.Common.{◌∙◌, ap, sym}
use Rattle.line_tending.specs.Telling.{report_told, message_told}
use Rattle.line_tending.specs.Tended.{Tended}
use Rattle.line_tending.proofs.Doing.{taken_by}
use Rattle.line_tending.proofs.tended_set.TendedSet.heed.Goals as goal

pub returns-in-Message : goal.returns-in-Message
returns-in-Message c =
    taken_by c.heed_message.result (record { link = c.args.link; report = c.args.report }) c.args.self.now c.note_report.new.self c.heed_message.new.self _
    c.note_report.ensures
    (ap (report_told c.args.self.now.plan c.args.link) c.in-Message.is
    ∙ ap (λ (x : Tended). message_told x.plan c.args.link c.in-Message.msu) (sym c.note_report.ensures))
    c.heed_message.ensures

pub returns-in-Status : goal.returns-in-Status
returns-in-Status c =
    taken_by c.heed_status.result (record { link = c.args.link; report = c.args.report }) c.args.self.now c.note_report.new.self c.heed_status.new.self _
    c.note_report.ensures (ap (report_told c.args.self.now.plan c.args.link) c.in-Status.is) c.heed_status.ensures
