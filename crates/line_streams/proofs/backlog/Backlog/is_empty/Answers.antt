use Rattle.line_streams.proofs.Waits.{is_empty_so}
use Rattle.line_streams.proofs.backlog.Backlog.is_empty.Goals as goal

pub returns : goal.returns
returns c = rw (← c.self.view_is) (is_empty_so c.self.inside.lines.items _ _ c.self.inside.lines.ok.0 c.is_empty.ensures)
