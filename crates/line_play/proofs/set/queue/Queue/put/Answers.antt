use Rattle.line_play.proofs.Waiting.{put_behind}
use Rattle.line_play.proofs.set.queue.Queue.put.Goals as goal

pub returns : goal.returns
returns c = put_behind c.push_back.result _ _ _ c.is_ok.result c.push_back.ensures.items c.is_ok.ensures.value
