use Rattle.sdl_ast.specs.Views.{input_of}
use Rattle.sdl_sound.specs.Actions.{input_origins}
use Rattle.sdl_rules.proofs.lost.lost_in_input.Goals as goal

pub returns-clause-place : goal.returns-clause-place
returns-clause-place c = c.in_ok-lost.ensures.place (input_origins (input_of c.args.input.now)) c.in_ok-senders.ensures

pub returns-clause-backs : goal.returns-clause-backs
returns-clause-backs c = c.in_ok-lost.ensures.backs (input_origins (input_of c.args.input.now)) c.in_ok-senders.ensures
