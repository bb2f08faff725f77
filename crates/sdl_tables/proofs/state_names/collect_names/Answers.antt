use Rattle.std.proofs.Common.{◌∙◌, ap, map, take, arith}
use Rattle.std.proofs.lemmas.List.{take_all}
use Rattle.sdl_ast.specs.Views.{process_of, state_of}
use Rattle.sdl_tables.specs.Rows.{row_names, part_names}
use Rattle.sdl_tables.proofs.States.{rows-collected}
use Rattle.sdl_tables.proofs.state_names.collect_names.Goals as goal

pub returns : goal.returns
returns c =
    rows-collected row_names (part_names c.args.which) (process_of c.args.process.now) c.args.ids.now c.loop-part.states.items
    (map state_of (take c.loop-part.part-index c.deref-part-items.result.now)) c.requires
    (ap (map state_of) (take_all c.loop-part.part-index c.deref-part-items.result.now (omega arith) ∙ c.deref-part-items.ensures.value))
    (omega (arith, c.loop-part.states.ok.0, c.loop-part.invariant.0)) c.loop-part.invariant.1
