use Rattle.std.proofs.Common.{rules, refl}
use Rattle.script_check.specs.Printed.{state_lines}
use Rattle.script_check.proofs.Written.{more_lines}
use Rattle.script_check.proofs.costs.write_states.Goals as goal

pub loop-state-preserved : goal.loop-state-preserved
loop-state-preserved g c =
    more_lines (state_lines c.args.draft.now.signals c.args.process.now) c.as_slice-state-items.result.now c.loop-state.state-index c.state-item.result
    (state_lines c.args.draft.now.signals c.args.process.now c.state-item.result) _ (g.W.Write.contents c.loop-state.writer) _
    (search rules) (search rules) refl (search rules) (search rules)
