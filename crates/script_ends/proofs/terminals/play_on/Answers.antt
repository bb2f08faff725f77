use Rattle.std.proofs.Common.{[]}
use Rattle.script_ends.specs.TermRuns.{last_of}
use Rattle.script_ends.proofs.TermRuns.{run_begins, written, failed}
use Rattle.script_ends.proofs.terminals.play_on.Goals as goal

pub returns-in-Ok-clause-held : goal.returns-in-Ok-clause-held
returns-in-Ok-clause-held g c held =
    written c.asks_told-keeps.result c.as_slice-commands.result.now c.args.script.now.commands.items _ _ c.args.terminal c.run.new.self.terminal (last_of c.run.new.self)
    c.asks_told-keeps.ensures c.as_slice-commands.ensures.value
    (c.in-Ok.ensures.held held c.args.terminal [] (g.W.Write.contents c.args.writer.now)
    (run_begins c.asks_told-keeps.result c.args.terminal (g.W.Write.contents c.args.writer.now)))

pub returns-in-Ok-clause-missed : goal.returns-in-Ok-clause-missed
returns-in-Ok-clause-missed g c missed =
    failed c.asks_told-keeps.result c.as_slice-commands.result.now c.args.script.now.commands.items _ _ c.args.terminal c.asks_told-keeps.ensures c.as_slice-commands.ensures.value
    (c.in-Ok.ensures.missed missed c.args.terminal [] (g.W.Write.contents c.args.writer.now)
    (run_begins c.asks_told-keeps.result c.args.terminal (g.W.Write.contents c.args.writer.now)))
