use Rattle.line_play.proofs.Waiting.{first_taken, none_taken, empty_taken}
use Rattle.line_play.proofs.set.queue.Queue.take.Goals as goal

pub returns-clause-some : goal.returns-clause-some
returns-clause-some c = first_taken c.pop_front.result _ _ c.pop_front.ensures.items

pub returns-clause-none : goal.returns-clause-none
returns-clause-none c = none_taken c.pop_front.result _ _ c.pop_front.ensures.items

pub returns-clause-nobody : goal.returns-clause-nobody
returns-clause-nobody c = empty_taken c.pop_front.result _ _ _ c.pop_front.ensures.items c.args.self.now.waiting.ok.0 c.pop_front.ensures.variant
