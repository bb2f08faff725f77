use Rattle.link_group.proofs.Passing.{due_is, passes}
use Rattle.link_group.proofs.ticking.pass.Goals as goal

pub returns-clause-due : goal.returns-clause-due
returns-clause-due c = due_is c.args.ticks c.args.link.now.terminal.processes c.in-Ok.due c.requires.room c.in-Ok.ensures.answer

pub returns-clause-link : goal.returns-clause-link
returns-clause-link c = passes c.args.ticks c.args.link.now c.tick.new.self c.waits-link.result c.requires.room c.in-Ok.ensures.ok c.waits-link.ensures
