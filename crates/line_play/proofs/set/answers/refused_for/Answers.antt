use Rattle.std.proofs.Common.{string_bytes}
use Rattle.line_play.proofs.SetObeying.{never_none}
use Rattle.line_play.proofs.SetDoing.{refused_fault}
use Rattle.line_play.proofs.set.answers.refused_for.Goals as goal

pub returns-in-Some-clause-none : goal.returns-in-Some-clause-none
returns-in-Some-clause-none c = never_none c.refusal.result _ c.refusal.ensures.some

pub returns-in-Some-clause-some : goal.returns-in-Some-clause-some
returns-in-Some-clause-some c = rw c.in-Some.is (refused_fault c.refusal.result (λ s. string_bytes s) c.in-Some.error c.refusal.ensures.text)
