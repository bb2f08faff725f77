use Rattle.std.proofs.Common.{take, ◌++◌, ◌≡◌}
use Rattle.sdl_ast.specs.Views.{process_of}
use Rattle.sdl_warnings.specs.Warned.{saves_vainly, vain_at}
use Rattle.std.specs.List.{flat_map}
use Rattle.std.specs.Prelude.{find}
use Rattle.sdl_warnings.proofs.saves.push_names.Given as goal

abbrev pub invariant-loop-id : goal.invariant-loop-id
invariant-loop-id l =
    l.found.items ≡ l.initial.found.items ++ flat_map (λ x. vain_at x (find (saves_vainly (process_of l.standing.process.now) x.name) l.states)) (take l.id-index l.names)
