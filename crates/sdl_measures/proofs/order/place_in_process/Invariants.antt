use Rattle.std.proofs.Common.{◌≡◌, [], take, map}
use Rattle.std.specs.List.{flat_map}
use Rattle.sdl_ast.specs.Views.{process_of, connection_of}
use Rattle.sdl_sound.specs.Joins.{connection_cycles}
use Rattle.sdl_measures.proofs.order.place_in_process.Given as goal

abbrev pub invariant-loop-own : goal.invariant-loop-own
invariant-loop-own l = flat_map (connection_cycles (process_of l.process)) (map connection_of (take l.own l.connection-items)) ≡ []
