use Rattle.std.proofs.Common.{◌≡◌, ◌++◌, map, drop}
use Rattle.sdl_ast.specs.Views.{tree_of}
use Rattle.sdl_emit.specs.Scopes.{scope_in}
use Rattle.sdl_meaning.specs.Named.{NamedTrees}
use Rattle.sdl_meaning.specs.Code.{trees_code}
use Rattle.sdl_emit.proofs.emit.emit_parameters.Given as goal

abbrev pub invariant-loop-parameter : goal.invariant-loop-parameter
invariant-loop-parameter l = record {
  code : l.code.items ++ trees_code (scope_in l.names) (map tree_of (drop l.parameter-index l.parameters)) ≡ l.initial.code.items ++ trees_code (scope_in l.names) (map tree_of l.parameters);
  named : NamedTrees (scope_in l.names) (map tree_of (drop l.parameter-index l.parameters));
}
