use Rattle.std.proofs.Common.{◌≡◌, [], Some, take}
use Rattle.std.specs.List.{flat_map}
use Rattle.sdl_ast.specs.Plain.{PlainConnection}
use Rattle.sdl_ast.specs.Views.{process_of}
use Rattle.sdl_tables.specs.Names.{number_of, connector_names}
use Rattle.sdl_sound.specs.Joins.{comes_back}
use Rattle.sdl_measures.proofs.order.place_in_joins.Given as goal

abbrev pub invariant-loop-join : goal.invariant-loop-join
invariant-loop-join l = (c : PlainConnection) → number_of (connector_names (process_of l.process)) c.name.name ≡ Some l.own
    → flat_map (comes_back (process_of l.process) c) (take l.join-index l.joins) ≡ []
