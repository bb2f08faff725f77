use Rattle.line_play.proofs.SetDoing.{state_there, state_nowhere}
use Rattle.line_play.proofs.set.state.SetState.state_line.Goals as goal

pub returns-in_ok-state_line-in-Some : goal.returns-in_ok-state_line-in-Some
returns-in_ok-state_line-in-Some c = state_there c.args.process.now c.set.result.now c.in-Some.book.now _ c.args.self.now.tender c.args.link c.set.ensures c.in-Some.ensures c.in_ok-state_line-in-Some.ensures

pub returns-in-None : goal.returns-in-None
returns-in-None c = state_nowhere c.args.process.now c.set.result.now c.args.self.now.tender c.args.link c.set.ensures c.in-None.ensures
