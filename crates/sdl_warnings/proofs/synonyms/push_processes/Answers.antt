use Rattle.std.proofs.Common.{map, take, ap, ◌∙◌}
use Rattle.std.proofs.lemmas.List.{map_push}
use Rattle.sdl_ast.specs.Views.{process_of}
use Rattle.sdl_tables.proofs.Growing.{join_on, taken_more}
use Rattle.sdl_warnings.specs.Warned.{unused_in_process}
use Rattle.sdl_warnings.proofs.synonyms.push_processes.Goals as goal

pub loop-process-preserved : goal.loop-process-preserved
loop-process-preserved c =
    let before = take c.loop-process.process-index c.args.processes.now in
    let more = taken_more c.args.processes.now c.loop-process.process-index c.process-item.result c.loop-process-test.true c.process-item.is in
    join_on unused_in_process c.args.found.now.items c.loop-process.found.items _ (map process_of before) _ (process_of c.process-item.result)
    (ap (map process_of) more ∙ map_push process_of before c.process-item.result) c.loop-process.invariant c.in_ok-push_process.ensures
