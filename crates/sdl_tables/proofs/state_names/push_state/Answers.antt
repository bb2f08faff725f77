use Rattle.std.proofs.Common.{arith}
use Rattle.sdl_ast.specs.Views.{state_of}
use Rattle.sdl_tables.specs.Rows.{row_names, part_names}
use Rattle.sdl_tables.proofs.States.{rows_at-set}
use Rattle.sdl_tables.proofs.state_names.push_state.Goals as goal

pub returns-clause-names : goal.returns-clause-names
returns-clause-names c =
    rows_at-set row_names c.args.states.now.items c.args.number c.index_mut-names.result.now c.push_part.new.names
    (part_names c.args.which (state_of c.args.part.now)) (omega arith) c.index_mut-names.ensures.value c.in_ok-push_part.ensures
