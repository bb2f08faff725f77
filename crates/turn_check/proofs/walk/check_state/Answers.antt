use Rattle.std.proofs.Common.{arith, below_more}
use Rattle.turn_check.proofs.Whole.{state_below}
use Rattle.turn_check.specs.Walk.{IsValidAt}
use Rattle.turn_code.specs.declared.input.Place.TheVariants.{State}
use Rattle.turn_check.proofs.walk.check_state.Goals as goal

pub returns-clause-ok : goal.returns-clause-ok
returns-clause-ok c =
    state_below c.args.draft.now c.args.number.0 c.args.process.now c.args.place c.args.state.now c.requires.process c.requires.state
    c.loop-input.input (omega arith) c.loop-input.invariant

pub loop-input-preserved : goal.loop-input-preserved
loop-input-preserved c =
    below_more (λ n. IsValidAt c.args.draft.now c.args.number.0 (State c.args.place) n) c.loop-input.input c.loop-input.invariant
    c.in_ok-check_input_at.ensures.ok
