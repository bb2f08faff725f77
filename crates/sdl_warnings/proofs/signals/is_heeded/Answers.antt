use Rattle.std.proofs.Common.{◌∙◌, ◌&&◌, ap, map, take_all}
use Rattle.std.specs.List.{list_any}
use Rattle.sdl_ast.specs.Plain.{PlainProcess}
use Rattle.sdl_ast.specs.Views.{process_of}
use Rattle.sdl_tables.specs.Names.{same_name}
use Rattle.sdl_warnings.specs.Warned.{heeds}
use Rattle.sdl_warnings.proofs.signals.is_heeded.Goals as goal

pub returns : goal.returns
returns c =
    c.loop-process.invariant
    ∙ ap (λ l. list_any (λ (p : PlainProcess). same_name c.args.to p.name.name && heeds p c.args.signal) (map process_of l))
    (take_all c.loop-process.process-index c.args.processes.now c.loop-process-test.false)
