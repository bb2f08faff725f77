use Rattle.std.proofs.Common.{map, take, ◌++◌, ◌≡◌}
use Rattle.sdl_ast.specs.Views.{process_of}
use Rattle.sdl_warnings.specs.Warned.{unread_variable}
use Rattle.std.specs.List.{flat_map}
use Rattle.sdl_warnings.proofs.variables.push_variables.Given as goal

abbrev pub invariant-loop-variable : goal.invariant-loop-variable
invariant-loop-variable l =
    l.found.items ≡ l.initial.found.items ++ flat_map (unread_variable (process_of l.process)) (map (λ v. v.name) (take l.variable-index l.variables))
