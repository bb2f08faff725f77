use Rattle.line_play.proofs.SetDoing.{value_there, value_nowhere}
use Rattle.line_play.proofs.set.state.SetState.value_line.Goals as goal

pub returns-in_ok-value_line-in-Some : goal.returns-in_ok-value_line-in-Some
returns-in_ok-value_line-in-Some c = value_there c.args.process.now c.args.variable.now c.set.result.now c.in-Some.book.now _ c.args.self.now.tender c.args.link c.set.ensures c.in-Some.ensures c.in_ok-value_line-in-Some.ensures

pub returns-in-None : goal.returns-in-None
returns-in-None c = value_nowhere c.args.process.now c.args.variable.now c.set.result.now c.args.self.now.tender c.args.link c.set.ensures c.in-None.ensures
