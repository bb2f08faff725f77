use Rattle.std.proofs.Common.{drop, ◌≡◌}
use Rattle.sdl_ast.specs.Views.{process_of}
use Rattle.sdl_warnings.specs.Warned.{saves_vainly}
use Rattle.std.specs.Prelude.{find}
use Rattle.sdl_warnings.proofs.saves.first_vain.Given as goal

abbrev pub invariant-loop-state : goal.invariant-loop-state
invariant-loop-state l =
    find (saves_vainly (process_of l.process) l.takers.name) l.states ≡ find (saves_vainly (process_of l.process) l.takers.name) (drop l.state-index l.states)
