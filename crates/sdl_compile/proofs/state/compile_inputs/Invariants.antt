use Rattle.std.proofs.Common.{take}
use Rattle.std.specs.List.{AllZip, flat_map}
use Rattle.sdl_sound.specs.Standing.{taken_by}
use Rattle.sdl_emit.specs.Scopes.{scope_in}
use Rattle.sdl_compile.specs.Drafts.{IsInputOf}
use Rattle.sdl_compile.proofs.state.compile_inputs.Given as goal

abbrev pub invariant-loop-input : goal.invariant-loop-input
invariant-loop-input l = AllZip (IsInputOf (scope_in l.context.names.now) l.entry) (flat_map taken_by (take l.input-index l.inputs)) l.drafts.items
