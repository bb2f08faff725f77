use Rattle.std.proofs.Common.{rules, refl}
use Rattle.script_check.specs.Printed.{process_lines}
use Rattle.script_check.proofs.Written.{more_lines}
use Rattle.script_check.proofs.costs.write_processes.Goals as goal

pub loop-process-preserved : goal.loop-process-preserved
loop-process-preserved g c =
    more_lines (process_lines c.args.draft.now.signals) c.as_slice-process-items.result.now c.loop-process.process-index c.process-item.result
    (process_lines c.args.draft.now.signals c.process-item.result) _ (g.W.Write.contents c.loop-process.writer) _
    (search rules) (search rules) refl (search rules) (search rules)
