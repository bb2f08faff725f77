use Rattle.std.proofs.Common.{ap, ◌∙◌, subst}
use Rattle.std.proofs.lemmas.Result.{IfOk-weaker, IfErr-weaker}
use Rattle.sdl_ast.specs.Plain.{PlainBlock}
use Rattle.sdl_ast.specs.Views.{block_of}
use Rattle.sdl_compile.specs.Blocks.{MatchesBlock}
use Rattle.sdl_compile.specs.Meaning.{RunsAsMeant}
use Rattle.sdl_compile.specs.Meant.{IsSetOfBlock}
use Rattle.sdl_compile.specs.Expansion.{expanded}
use Rattle.turn_verify.proofs.Loads.{never_refused, gives_unless, refused_unless, without_memory}
use Rattle.turn_verify.proofs.loading.set_meant.Goals as goal

pub returns-in-Ok-clause-sound : goal.returns-in-Ok-clause-sound
returns-in-Ok-clause-sound c = IfOk-weaker c.verified.result _ _ (λ v h. c.in-Ok.ensures.sound) c.verified.ensures.matches

pub returns-in-Ok-clause-matches : goal.returns-in-Ok-clause-matches
returns-in-Ok-clause-matches c =
    IfOk-weaker c.verified.result _ _ (λ v h b is. subst (λ (x : PlainBlock). MatchesBlock x v) (ap block_of c.in-Ok.ensures.block ∙ is.block) h) c.verified.ensures.matches

pub returns-in-Ok-clause-runs : goal.returns-in-Ok-clause-runs
returns-in-Ok-clause-runs c =
    IfOk-weaker c.verified.result _ _ (λ v h b is. subst (λ (x : PlainBlock). RunsAsMeant x v) (ap block_of c.in-Ok.ensures.block ∙ is.block) h) c.verified.ensures.runs

pub returns-in-Ok-clause-set : goal.returns-in-Ok-clause-set
returns-in-Ok-clause-set c =
    IfOk-weaker c.verified.result _ _ (λ v h b is. subst (λ (x : PlainBlock). IsSetOfBlock x v) (ap block_of c.in-Ok.ensures.block ∙ is.block) h) c.verified.ensures.set

pub returns-in-Ok-clause-exact : goal.returns-in-Ok-clause-exact
returns-in-Ok-clause-exact c = λ b is sound.
    gives_unless c.verified.result (MatchesBlock (expanded b))
    (IfOk-weaker c.verified.result _ _ (λ v h. subst (λ (x : PlainBlock). MatchesBlock x v) (ap block_of c.in-Ok.ensures.block ∙ is.block) h) c.verified.ensures.matches)
    c.verified.ensures.memory

pub returns-in-Ok-clause-refused : goal.returns-in-Ok-clause-refused
returns-in-Ok-clause-refused c =
    IfErr-weaker c.verified.result _ _ (λ e h b ts is written. h) (refused_unless c.verified.result c.args.text.now c.verified.ensures.memory)

pub returns-in-Err-clause-exact : goal.returns-in-Err-clause-exact
returns-in-Err-clause-exact c = λ b is sound.
    without_memory c.rule_refusal.result (MatchesBlock (expanded b)) (c.rule_refusal.ensures.memory (never_refused b c.in-Err.fault sound (c.in-Err.ensures.refused b is)))

pub returns-in-Err-clause-refused : goal.returns-in-Err-clause-refused
returns-in-Err-clause-refused c = λ b ts is written. c.rule_refusal.ensures.refused b ts (c.in-Err.ensures.refused b is) written
