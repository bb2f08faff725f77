use Rattle.std.proofs.Common.{◌≡◌, List, length, map, sym, ap, ◌∙◌, arith, subst}
use Rattle.std.specs.Prelude.{IfOk}
use Rattle.std.specs.Global.{Vec}
use Rattle.std.specs.List.{AllZip}
use Rattle.std.proofs.lemmas.List.{length-map}
use Rattle.sdl_ast.specs.declared.expression.Identifier.{Identifier}
use Rattle.sdl_ast.specs.Views.{process_of}
use Rattle.sdl_ast.specs.Plain.{PlainProcess}
use Rattle.sdl_tables.specs.Names.{Input, states_of, part_inputs, part_saves, inputs_by_state, saves_by_state}
use Rattle.sdl_tables.specs.Rows.{row_names}
use Rattle.sdl_sound.specs.Standing.{taken_in}
use Rattle.std.specs.Borrow.{Bor}
use Rattle.sdl_ast.specs.declared.tree.InputPart.{InputPart}
use Rattle.sdl_emit.specs.Scopes.{scope_in}
use Rattle.sdl_compile.specs.Drafts.{AllReady, AllTriggers, SavesAll, AreInputsOf}
use Rattle.sdl_compile.proofs.Zips.{paired}
use Rattle.sdl_compile.proofs.process.compile_all.Goals as goal

inputs_count : (p : PlainProcess) (rows : List (Vec (Bor InputPart))) → map taken_in rows ≡ inputs_by_state p → length rows ≡ length (states_of p)
inputs_count p rows e = omega (arith, ap length e, paired part_inputs p, length-map rows taken_in)

saves_count : (p : PlainProcess) (rows : List (Vec Identifier)) → map row_names rows ≡ saves_by_state p → length rows ≡ length (states_of p)
saves_count p rows e = omega (arith, ap length e, paired part_saves p, length-map rows row_names)

pub compile_states-requires-clause-paired : goal.compile_states-requires-clause-paired
compile_states-requires-clause-paired c =
    inputs_count (process_of c.args.context.now.names.now.process.now) c.deref-2.result.now (ap (map taken_in) c.deref-2.ensures.value ∙ c.in_ok-inputs.ensures)

pub compile_states-requires-clause-saves : goal.compile_states-requires-clause-saves
compile_states-requires-clause-saves c =
    saves_count (process_of c.args.context.now.names.now.process.now) c.deref.result.now (ap (map row_names) c.deref.ensures.value ∙ c.in_ok-saves.ensures)

pub compile_states-requires-clause-ready : goal.compile_states-requires-clause-ready
compile_states-requires-clause-ready c =
    subst (AllReady (scope_in c.args.context.now.names.now)) (sym (ap (map taken_in) c.deref-2.ensures.value ∙ c.in_ok-inputs.ensures)) c.requires.ready

pub compile_states-requires-clause-saved : goal.compile_states-requires-clause-saved
compile_states-requires-clause-saved c =
    subst (AllTriggers (scope_in c.args.context.now.names.now)) (sym (ap (map row_names) c.deref.ensures.value ∙ c.in_ok-saves.ensures)) c.requires.saved

pub returns-clause-saves : goal.returns-clause-saves
returns-clause-saves c =
    let sc = scope_in c.args.context.now.names.now in
    subst (λ (l : List (List Identifier)). IfOk c.compile_states.result (λ ds. AllZip (SavesAll sc) l ds.items))
    (ap (map row_names) c.deref.ensures.value ∙ c.in_ok-saves.ensures) c.compile_states.ensures.saves

pub returns-clause-made : goal.returns-clause-made
returns-clause-made c =
    let sc = scope_in c.args.context.now.names.now in
    subst (λ (l : List (List Input)). IfOk c.compile_states.result (λ ds. AllZip (AreInputsOf sc) l ds.items))
    (ap (map taken_in) c.deref-2.ensures.value ∙ c.in_ok-inputs.ensures) c.compile_states.ensures.made
