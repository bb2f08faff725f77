use Rattle.line_play.specs.SetDoing.{stood}
use Rattle.line_play.proofs.SetLeaving.{early_so, ends_so}
use Rattle.line_play.proofs.set.state.SetState.end_by.Goals as goal

pub returns-then-is_before : goal.returns-then-is_before
returns-then-is_before c = early_so (stood c.args.self.now) c.args.since _ c.requires c.is_before.ensures c.if-is_before.true

pub returns : goal.returns
returns c = ends_so (stood c.args.self.now) c.args.since _ c.requires c.is_before.ensures c.if-is_before.false
