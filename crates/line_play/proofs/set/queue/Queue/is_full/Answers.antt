use Rattle.std.proofs.Common.{arith, ◌∙◌}
use Rattle.std.proofs.lemmas.Bool.Decides.{nat_tests}
use Rattle.line_play.proofs.Waiting.{many_wait, few_wait}
use Rattle.line_play.proofs.set.queue.Queue.is_full.Goals as goal

pub returns-clause-many : goal.returns-clause-many
returns-clause-many c = λ full. many_wait _ c.len.result 1024 (c.len.ensures ∙ c.args.self.now.waiting.ok.0) (grind (arith, nat_tests))

pub returns-clause-few : goal.returns-clause-few
returns-clause-few c = λ free. few_wait _ c.len.result 1024 (c.len.ensures ∙ c.args.self.now.waiting.ok.0) (grind (arith, nat_tests))
