use Rattle.std.proofs.Common.{◌≡◌, map, take, drop}
use Rattle.std.specs.List.{AllZip}
use Rattle.sdl_ast.specs.Views.{process_of}
use Rattle.sdl_tables.specs.Names.{states_of}
use Rattle.sdl_tables.specs.Rows.{row_names}
use Rattle.sdl_sound.specs.Standing.{taken_in}
use Rattle.sdl_emit.specs.Scopes.{scope_in}
use Rattle.sdl_compile.specs.Drafts.{AllReady, IsNamedAs, SavesAll, AreInputsOf, sets_of}
use Rattle.sdl_compile.proofs.state.compile_states.Given as goal

abbrev pub invariant-loop-number : goal.invariant-loop-number
invariant-loop-number l = record {
  names : AllZip IsNamedAs (take l.number (states_of (process_of l.context.names.now.process.now))) l.states.items;
  saves : AllZip (SavesAll (scope_in l.context.names.now)) (map row_names (take l.number l.saved)) l.states.items;
  made : AllZip (AreInputsOf (scope_in l.context.names.now)) (map taken_in (take l.number l.inputs)) l.states.items;
  sets : sets_of l.states.items ≡ take l.number l.sets;
  ready : AllReady (scope_in l.context.names.now) (map taken_in (drop l.number l.inputs));
}
