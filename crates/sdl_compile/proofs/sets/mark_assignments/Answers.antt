use Rattle.std.proofs.Common.{◌≡◌, ◌∙◌, ap}
use Rattle.turn_code.specs.Sets.{with_variable}
use Rattle.sdl_meaning.specs.Outcomes.{variable_at}
use Rattle.sdl_meaning.specs.Code.{number_or_zero}
use Rattle.sdl_emit.specs.Scopes.{scope_in}
use Rattle.sdl_compile.proofs.Marking.{tasks_loop, behind_loop, named_loop}
use Rattle.sdl_compile.proofs.sets.mark_assignments.Goals as goal

pub loop-assignment-preserved : goal.loop-assignment-preserved
loop-assignment-preserved c =
    let s = scope_in c.args.names.now in
    let m = c.loop-assignment.set in
    let xs = c.args.assignments.now in
    let i = c.loop-assignment.assignment-index in
    let x = c.assignment-item.result in
    let lt = c.loop-assignment-test.true in
    let is = c.assignment-item.is in
    let set : c.with-set.result ≡ with_variable m (number_or_zero (variable_at s x.variable)) = c.with-set.ensures ∙ ap (with_variable m) c.variable.ensures in
    record {
      sets = tasks_loop s m c.with-set.result xs i x lt is set _ _ _ _ c.in_ok-mark_expression.ensures c.in_ok-mark.ensures c.loop-assignment.invariant.sets;
      behind = behind_loop s m c.with-set.result xs i x lt is set _ c.loop-assignment.invariant.behind;
      named = named_loop s m c.with-set.result xs i x lt is set c.loop-assignment.invariant.named;
    }
