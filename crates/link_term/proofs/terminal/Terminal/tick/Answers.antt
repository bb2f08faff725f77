use Rattle.std.proofs.Common.{rules, IfErr}
use Rattle.link_term.specs.Term.{IsTickError}
use Rattle.link_term.proofs.Room.{tick_happens}
use Rattle.link_term.proofs.terminal.Terminal.tick.Goals as goal

pub returns-clause-sure : goal.returns-clause-sure
returns-clause-sure c =
    let error : IfErr c.map_err.result (IsTickError c.args.ticks c.args.self.now.processes) = search rules in
    tick_happens c.args.ticks c.args.self.now.processes c.map_err.result error
