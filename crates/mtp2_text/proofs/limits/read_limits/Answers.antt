use Rattle.std.proofs.Common.{refl, subst}
use Rattle.std.proofs.lemmas.Result.{IfOk-weaker}
use Rattle.sdl_ast.specs.Plain.{PlainBlock}
use Rattle.sdl_ast.specs.Views.{block_of}
use Rattle.mtp2_text.specs.TextLimits.{AreLimitsOf}
use Rattle.mtp2_text.proofs.limits.read_limits.Goals as goal

pub returns-in-Ok-clause-read : goal.returns-in-Ok-clause-read
returns-in-Ok-clause-read c =
    IfOk-weaker c.block_limits.result _ _
    (λ limits h b reads low. subst (λ (x : PlainBlock). AreLimitsOf x limits) (c.in-Ok.ensures.exact b reads).0 h) c.block_limits.ensures

pub returns-in-Ok-clause-unread : goal.returns-in-Ok-clause-unread
returns-in-Ok-clause-unread c =
    IfOk-weaker c.block_limits.result _ _
    (λ limits h none. absurd (none (block_of c.in-Ok.block) c.in-Ok.ensures.found (c.in-Ok.ensures.exact (block_of c.in-Ok.block) c.in-Ok.ensures.found).1)) c.block_limits.ensures
