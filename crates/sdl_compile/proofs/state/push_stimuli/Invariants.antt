use Rattle.std.proofs.Common.{List, ◌++◌, map, take}
use Rattle.std.specs.List.{AllZip}
use Rattle.sdl_tables.specs.Names.{Input}
use Rattle.sdl_emit.specs.Scopes.{scope_in, input_by}
use Rattle.sdl_compile.specs.Drafts.{IsInputOf}
use Rattle.sdl_compile.proofs.state.push_stimuli.Given as goal

abbrev pub invariant-loop-stimulus : goal.invariant-loop-stimulus
invariant-loop-stimulus l =
    (before : List Input) → AllZip (IsInputOf (scope_in l.context.names.now) l.entry) before l.initial.drafts.items
    → AllZip (IsInputOf (scope_in l.context.names.now) l.entry) (before ++ map (input_by l.input) (take l.stimulus-index l.stimulus-items)) l.drafts.items
