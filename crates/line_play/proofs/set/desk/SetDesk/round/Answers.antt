use Rattle.std.proofs.Common.{refl}
use Rattle.line_play.specs.SetDoing.{stood}
use Rattle.line_play.proofs.SetRounds.{is_round}
use Rattle.line_play.proofs.set.desk.SetDesk.round.Goals as goal

pub returns-clause-made : goal.returns-clause-made
returns-clause-made g c =
    is_round c.args.self.now.ahead c.args.late _ _ c.goes_on.result c.carry_lines.new.tender c.tick.new.tender c.tend.new.tender c.tell_all.new.tender c.mind.new.tender
    c.tell_all-2.new.tender (stood c.attend.new.state) (stood c.depart.new.self) c.messages.result
    (g.P.Reports.stand c.tell_late.new.reports) (g.P.Reports.stand c.carry_lines.new.reports) (g.P.Reports.stand c.tell_all.new.reports) (g.P.Reports.stand c.move_on.new.self)
    (g.P.Reports.stand c.attend.new.reports) (g.L.Lines.traffic c.args.lines.now) (g.L.Lines.traffic c.begin.new.self) (g.L.Lines.traffic c.carry_lines.new.lines)
    c.begin.ensures c.in_ok-tell_late.ensures c.in_ok-carry_lines.ensures c.in_ok-tick.ensures c.in_ok-tend.ensures c.in_ok-tell_all.ensures c.in_ok-move_on.ensures
    c.messages.ensures c.in_ok-mind.ensures c.in_ok-attend.ensures c.in_ok-depart.ensures c.in_ok-tell_all-2.ensures refl c.goes_on.ensures
