use Rattle.std.proofs.Common.{ℕ}
use Rattle.std.specs.Prelude.{◌==◌}
use Rattle.std.proofs.lemmas.Bool.{eq-eqb, ne_eqb}
use Rattle.m3ua_frames.specs.Numbers.{numbers_in}
use Rattle.m3ua_gateway.proofs.ContextLaws.{any_on, any_here, any_end}
use Rattle.m3ua_gateway.proofs.contexts.is_in.Goals as goal

pub returns-then-number-context : goal.returns-then-number-context
returns-then-number-context c =
    any_here (λ (n : ℕ). n == c.args.context) (numbers_in c.loop-number.rest.now) (numbers_in c.in-Some.after.now) (numbers_in c.args.contexts.now) c.in-Some.number c.in-Some.ensures.value (eq-eqb _ _ c.if-number-context.true) c.loop-number.invariant

pub loop-number-preserved : goal.loop-number-preserved
loop-number-preserved c =
    any_on (λ (n : ℕ). n == c.args.context) (numbers_in c.loop-number.rest.now) (numbers_in c.in-Some.after.now) (numbers_in c.args.contexts.now) c.in-Some.number c.in-Some.ensures.value (ne_eqb _ _ c.if-number-context.false) c.loop-number.invariant

pub returns : goal.returns
returns c = any_end (λ (n : ℕ). n == c.args.context) (numbers_in c.loop-number.rest.now) (numbers_in c.args.contexts.now) c.in_default.ensures.value c.loop-number.invariant
