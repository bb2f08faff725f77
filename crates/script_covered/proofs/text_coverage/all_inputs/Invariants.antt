-- The inputs collected so far.
use Rattle.std.proofs.Common.{◌≡◌, take, map}
use Rattle.sdl_ast.specs.Views.{process_of}
use Rattle.sdl_tables.specs.Names.{inputs_by_state}
use Rattle.script_covered.specs.Texts.{inputs_in}
use Rattle.script_covered.proofs.text_coverage.all_inputs.Given as goal

abbrev pub invariant-loop-process : goal.invariant-loop-process
invariant-loop-process l = map inputs_in l.all.items ≡ map inputs_by_state (map process_of (take l.process-index l.tables))
