use Rattle.std.proofs.Common.{◌≡◌, map, take, drop}
use Rattle.sdl_emit.specs.Scopes.{scope_in}
use Rattle.sdl_meaning.specs.Declarations.{trigger_of}
use Rattle.sdl_compile.specs.Drafts.{AreTriggers}
use Rattle.sdl_compile.proofs.state.compile_saves.Given as goal

abbrev pub invariant-loop-id : goal.invariant-loop-id
invariant-loop-id l = record {
  saves : l.saves.items ≡ map (trigger_of (scope_in l.names)) (take l.id-index l.ids);
  triggers : AreTriggers (scope_in l.names) (drop l.id-index l.ids);
}
