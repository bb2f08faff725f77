use Rattle.std.proofs.Common.{◌∙◌, ap, map, arith}
use Rattle.sdl_tables.specs.sdl_ast_types.tree.Process.{Process}
use Rattle.sdl_tables.specs.Views.{process_of, state_of}
use Rattle.sdl_tables.specs.Names.{part_inputs}
use Rattle.sdl_tables.proofs.States.{rows-collected}
use Rattle.sdl_sound.specs.Standing.{taken_in}
use Rattle.sdl_sound.proofs.standing.standing_inputs.Goals as goal

pub returns : goal.returns
returns c =
    rows-collected taken_in part_inputs (process_of c.args.process.now) c.states.result.now c.in_ok-states.states.items
    (map state_of c.deref.result.now) c.states.ensures
    (ap (map state_of) c.deref.ensures.value ∙ ap (λ (q : Process). map state_of q.states.items) c.process.ensures.process)
    (omega (arith, c.in_ok-states.states.ok.0, c.in_ok-states.ensures.len)) c.in_ok-states.ensures.rows
