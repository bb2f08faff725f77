use Rattle.std.proofs.Common.{arith}
use Rattle.sdl_tables.specs.Views.{state_of}
use Rattle.sdl_tables.specs.Names.{part_inputs}
use Rattle.sdl_tables.proofs.States.{rows_at-set}
use Rattle.sdl_sound.specs.Standing.{taken_in}
use Rattle.sdl_sound.proofs.standing.push_state.Goals as goal

pub returns-clause-rows : goal.returns-clause-rows
returns-clause-rows c =
    rows_at-set taken_in c.args.states.now.items c.args.number c.index_mut-inputs.result.now c.push_part.new.inputs
    (part_inputs (state_of c.args.part.now)) (omega arith) c.index_mut-inputs.ensures.value c.in_ok-push_part.ensures
