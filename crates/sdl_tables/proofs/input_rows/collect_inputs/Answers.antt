use Rattle.std.proofs.Common.{◌∙◌, ap, map, take, arith}
use Rattle.std.proofs.lemmas.List.{take_all}
use Rattle.sdl_ast.specs.Views.{process_of, state_of}
use Rattle.sdl_tables.specs.Names.{part_inputs}
use Rattle.sdl_tables.specs.Rows.{rows_inputs}
use Rattle.sdl_tables.proofs.States.{rows-collected}
use Rattle.sdl_tables.proofs.input_rows.collect_inputs.Goals as goal

pub returns : goal.returns
returns c =
    rows-collected rows_inputs part_inputs (process_of c.args.process.now) c.args.states.now c.loop-part.inputs.items
    (map state_of (take c.loop-part.part-index c.deref-part-items.result.now)) c.requires
    (ap (map state_of) (take_all c.loop-part.part-index c.deref-part-items.result.now (omega arith) ∙ c.deref-part-items.ensures.value))
    (omega (arith, c.loop-part.inputs.ok.0, c.loop-part.invariant.0)) c.loop-part.invariant.1
