use Rattle.sdl_ast.specs.Views.{block_of, process_of}
use Rattle.sdl_sound.specs.Names.{process_unknown}
use Rattle.sdl_sound.proofs.Places.{Marks-more}
use Rattle.sdl_rules.proofs.statements.unknown_in_processes.Goals as goal

pub loop-process-preserved : goal.loop-process-preserved
loop-process-preserved c =
    Marks-more (process_unknown (block_of c.args.block.now)) process_of c.args.processes.now c.loop-process.process-index c.process-item.result
    c.loop-process.place c.unknown_in_process.result c.earlier-place.result c.loop-process-test.true c.process-item.is
    c.loop-process.invariant c.unknown_in_process.ensures c.earlier-place.ensures
