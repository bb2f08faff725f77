use Rattle.line_filter.specs.Acts.{asked}
use Rattle.line_filter.specs.Speaking.{fresh}
use Rattle.line_filter.proofs.Telling.{moved}
use Rattle.line_filter.proofs.voice.Voice.ask.Goals as goal

pub returns-in-Some : goal.returns-in-Some
returns-in-Some g c =
    fresh c.in-Some.unit c.requires
    (moved _ _ c.in-Some.is (λ unit. g.T.LineTerminal.acts c.args.terminal.now (asked unit) c.unit_out.new.self) c.in_ok-unit.ensures.act) c.begin.ensures
