use Rattle.std.proofs.Common.{◌≡◌, map, ◌++◌, take}
use Rattle.std.specs.List.{flat_map}
use Rattle.sdl_tables.specs.Views.{clause_of}
use Rattle.sdl_tables.specs.Names.{clause_inputs}
use Rattle.sdl_sound.specs.Standing.{taken_in}
use Rattle.sdl_sound.proofs.standing.push_part.Given as goal

abbrev pub invariant-loop-clause : goal.invariant-loop-clause
invariant-loop-clause l =
    taken_in l.inputs ≡ taken_in l.initial.inputs ++ flat_map clause_inputs (map clause_of (take l.clause-index l.clause-items))
