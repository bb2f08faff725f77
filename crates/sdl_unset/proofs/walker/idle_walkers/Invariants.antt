use Rattle.std.proofs.Common.{◌≡◌, length}
use Rattle.std.specs.Prelude.{All}
use Rattle.sdl_ast.specs.Plain.{PlainProcess}
use Rattle.sdl_tables.specs.Names.{states_of}
use Rattle.sdl_sound.specs.Chances.{no_chances}
use Rattle.sdl_unset.specs.Flows.{Stands}
use Rattle.sdl_unset.proofs.walker.idle_walkers.Given as goal

abbrev pub invariant-loop-number : goal.invariant-loop-number
invariant-loop-number l =
    (length l.walkers.items ≡ l._number)
    × ((p : PlainProcess) → length (states_of p) ≡ l.states → All (Stands p (λ x q. no_chances)) l.walkers.items)
