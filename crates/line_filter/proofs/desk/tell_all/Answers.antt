use Rattle.std.specs.Prelude.{option_map, string_bytes}
use Rattle.line_filter.specs.Acts.{reported}
use Rattle.line_filter.specs.Orders.{told}
use Rattle.line_filter.specs.Reporting.{TellsLines}
use Rattle.line_filter.proofs.Telling.{moved, told_none, told_more, told_all}
use Rattle.line_filter.proofs.desk.tell_all.Goals as goal

pub loop-told-init : goal.loop-told-init
loop-told-init g c = told_none _ _ _ _

pub loop-told-preserved : goal.loop-told-preserved
loop-told-preserved g c =
    told_more _ _ _ _ _ _ _ _ _ c.loop-told.invariant
    (moved _ _ c.in-Some.is (λ text. g.T.LineTerminal.acts c.loop-told.terminal (reported (option_map string_bytes text)) c.report.new.self) c.in_ok-text.ensures)
    (moved _ _ c.as_str.ensures.value (λ text. TellsLines (g.P.Reports.stand c.loop-told.reports) (g.P.Reports.stand c.tell.new.reports) (told c.args.now text))
    c.in_ok-tell-in-Some.ensures)

pub returns-in-None : goal.returns-in-None
returns-in-None g c =
    told_all _ _ _ _ _ _ _ c.loop-told.invariant
    (moved _ _ c.in-None.is (λ text. g.T.LineTerminal.acts c.loop-told.terminal (reported (option_map string_bytes text)) c.report.new.self) c.in_ok-text.ensures)
