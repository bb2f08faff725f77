use Rattle.std.proofs.Common.{◌∙◌}
use Rattle.line_play.proofs.Waiting.{waiting_length}
use Rattle.line_play.proofs.set.queue.Queue.len.Goals as goal

pub returns : goal.returns
returns c = waiting_length _ _ (c.len.ensures ∙ c.args.self.now.waiting.ok.0)
