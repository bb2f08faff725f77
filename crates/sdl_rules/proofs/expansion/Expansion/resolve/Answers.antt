use Rattle.std.proofs.Common.{sym, ◌∙◌, subst}
use Rattle.std.proofs.lemmas.Result.{IfOk-weaker, IfErr-weaker}
use Rattle.sdl_ast.specs.Plain.{PlainBlock}
use Rattle.sdl_sound.specs.Sound.{Sound}
use Rattle.sdl_sound.specs.Refusals.{Refuses}
use Rattle.sdl_rules.proofs.expansion.Expansion.resolve.Goals as goal

pub returns-in-Ok-clause-block : goal.returns-in-Ok-clause-block
returns-in-Ok-clause-block c = IfOk-weaker c.accepted.result _ _ (λ r h. h ∙ c.in-Ok.ensures.block) c.accepted.ensures.block

pub returns-in-Ok-clause-sound : goal.returns-in-Ok-clause-sound
returns-in-Ok-clause-sound c =
    IfOk-weaker c.accepted.result _ _ (λ r h b is. h b is.declared (subst (λ (x : PlainBlock). Sound x) is.block c.in-Ok.ensures.sound)) c.accepted.ensures.sound

pub returns-in-Ok-clause-refused : goal.returns-in-Ok-clause-refused
returns-in-Ok-clause-refused c =
    IfErr-weaker c.accepted.result _ _ (λ e h b is. h b is.declared (subst (λ (x : PlainBlock). Sound x) is.block c.in-Ok.ensures.sound)) c.accepted.ensures.refused

pub returns-in-Err-clause-refused : goal.returns-in-Err-clause-refused
returns-in-Err-clause-refused c = λ b is.
    c.refusal.ensures b is.declared (subst (λ (x : PlainBlock). Refuses x c.in-Err.fault) is.block c.in-Err.ensures.refused)
