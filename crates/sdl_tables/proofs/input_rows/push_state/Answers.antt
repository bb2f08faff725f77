use Rattle.std.proofs.Common.{arith}
use Rattle.sdl_ast.specs.Views.{state_of}
use Rattle.sdl_tables.specs.Names.{part_inputs}
use Rattle.sdl_tables.specs.Rows.{rows_inputs}
use Rattle.sdl_tables.proofs.States.{rows_at-set}
use Rattle.sdl_tables.proofs.input_rows.push_state.Goals as goal

pub returns-clause-rows : goal.returns-clause-rows
returns-clause-rows c =
    rows_at-set rows_inputs c.args.inputs.now.items c.args.number c.index_mut-rows.result.now c.push_part.new.rows
    (part_inputs (state_of c.args.part.now)) (omega arith) c.index_mut-rows.ensures.value c.in_ok-push_part.ensures
