use Rattle.std.proofs.Common.{string_bytes}
use Rattle.line_play.specs.SetDoing.{stood}
use Rattle.line_play.proofs.SetDoing.{not_reopened}
use Rattle.line_play.proofs.set.state.SetState.why_not_reopened.Goals as goal

pub returns-in-Reopen-clause-some : goal.returns-in-Reopen-clause-some
returns-in-Reopen-clause-some g c = λ whom. rw c.in-Reopen.is (not_reopened c.reopen.result (λ s. string_bytes s) (stood c.args.self.now) c.reopen.ensures.some)

pub returns-in_default-clause-some : goal.returns-in_default-clause-some
returns-in_default-clause-some g c = λ whom. tt
