use Rattle.std.proofs.Common.{rules}
use Rattle.script_check.specs.Printed.{input_line}
use Rattle.script_check.proofs.Written.{more_lines}
use Rattle.script_check.proofs.costs.write_state.Goals as goal

pub loop-input-preserved : goal.loop-input-preserved
loop-input-preserved g c =
    more_lines (input_line c.args.draft.now.signals c.args.process.now c.args.state.now) c.as_slice-input-items.result.now c.loop-input.input-index c.input-item.result
    c.deref.result.now _ (g.W.Write.contents c.loop-input.writer) _
    (search rules) (search rules) (search rules) (search rules) (search rules)
