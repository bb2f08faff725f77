use Rattle.std.proofs.Common.{arith, below_more}
use Rattle.turn_check.proofs.Whole.{process_below}
use Rattle.turn_check.specs.Walk.{IsValidState}
use Rattle.turn_code.specs.declared.input.Place.TheVariants.{State}
use Rattle.turn_check.proofs.walk.check_states.Goals as goal

pub returns-clause-ok : goal.returns-clause-ok
returns-clause-ok c =
    process_below c.args.draft.now c.args.number.0 c.args.process.now c.requires.process c.requires.start c.loop-place.place (omega arith)
    c.loop-place.invariant

pub loop-place-preserved : goal.loop-place-preserved
loop-place-preserved c =
    below_more (λ n. IsValidState c.args.draft.now c.args.number.0 (State (record { 0 = n }))) c.loop-place.place c.loop-place.invariant
    c.in_ok-check_state_at.ensures.ok
