use Rattle.sdl_productions.specs.BodyViews.{reached_view}
use Rattle.sdl_tree.proofs.StepTurns.{step_goes_on, step_smaller, step_closes, step_stops}
use Rattle.sdl_tree.proofs.statements.read_transition.Goals as goal

pub returns-in-Err : goal.returns-in-Err
returns-in-Err c = step_stops (reached_view c.steps.reached) c.steps.rest.now c.in-Err.stop _ c.in-Err.ensures c.steps.invariant

pub steps-smaller : goal.steps-smaller
steps-smaller c =
    step_smaller (reached_view c.steps.reached) c.steps.rest.now c.in-Ok.found.1.now c.in-Ok.found.0 c.in-Reaches.next c.in-Reaches.is c.in-Ok.ensures

pub steps-preserved : goal.steps-preserved
steps-preserved c =
    step_goes_on (reached_view c.steps.reached) c.steps.rest.now c.in-Ok.found.1.now c.in-Ok.found.0 c.in-Reaches.next _ c.in-Reaches.is c.in-Ok.ensures c.steps.invariant

pub returns-in-Closes : goal.returns-in-Closes
returns-in-Closes c =
    step_closes (reached_view c.steps.reached) c.steps.rest.now c.in-Ok.found.1.now c.in-Ok.found.0 c.in-Closes.transition _ c.in-Closes.is c.in-Ok.ensures c.steps.invariant
