use Rattle.std.proofs.Common.{◌<◌, length, subst, sym, ap, arith, add-one}
use Rattle.std.specs.Global.{Vec}
use Rattle.sdl_ast.specs.Views.{process_of}
use Rattle.sdl_ast.specs.declared.expression.Identifier.{Identifier}
use Rattle.turn_code.specs.declared.variable_set.VariableSet.{VariableSet}
use Rattle.std.specs.Borrow.{Bor}
use Rattle.std.specs.List.{flat_map}
use Rattle.sdl_ast.specs.declared.tree.InputPart.{InputPart}
use Rattle.sdl_tables.specs.Names.{states_of}
use Rattle.sdl_tables.specs.Rows.{row_names}
use Rattle.sdl_sound.specs.Standing.{taken_by, taken_in}
use Rattle.sdl_emit.specs.Scopes.{scope_in}
use Rattle.sdl_compile.specs.Drafts.{IsNamedAs, SavesAll, AreInputsOf, AreTriggers}
use Rattle.sdl_compile.proofs.Zips.{zip_more, zip_some, all_ready_more, sets_more, triggers_at}
use Rattle.sdl_compile.proofs.state.compile_states.Goals as goal

pub loop-number-preserved : goal.loop-number-preserved
loop-number-preserved c =
    let lt : c.loop-number.number < length c.args.inputs.now = omega arith in
    let all = states_of (process_of c.args.context.now.names.now.process.now) in
    let lt2 : c.loop-number.number < length all = omega (arith, lt, c.requires.paired) in
    let lt3 : c.loop-number.number < length c.args.sets.now = omega (arith, lt2, c.requires.sets) in
    let lt4 : c.loop-number.number < length c.args.saved.now = omega (arith, lt2, c.requires.saves) in
    let names = scope_in c.args.context.now.names.now in
    let item = c.in_ok-make_state.field-0 in
    let old = c.loop-number.states.items in
    let i = c.loop-number.number in
    let row = c.index-inputs-number.result in
    let ids = c.index-saved-number.result in
    record {
      names = rw (add-one, c.in_ok-push.ensures.items)
          (zip_some IsNamedAs all i old item lt2 c.loop-number.invariant.names c.in_ok-make_state.ensures.name);
      saves = rw (add-one, c.in_ok-push.ensures.items)
          (zip_more (SavesAll names) row_names c.args.saved.now i ids old item lt4 c.loop-number.invariant.saves
          (subst (λ (v : Vec Identifier). SavesAll names (row_names v) item) c.index-saved-number.is
          (subst (λ l. SavesAll names l item) c.deref.ensures.value c.in_ok-make_state.ensures.saves)));
      made = rw (add-one, c.in_ok-push.ensures.items)
          (zip_more (AreInputsOf names) taken_in c.args.inputs.now i row old item lt c.loop-number.invariant.made
          (subst (λ (v : Vec (Bor InputPart)). AreInputsOf names (taken_in v) item) c.index-inputs-number.is
          (subst (λ rows. AreInputsOf names (flat_map taken_by rows) item) c.deref-in-loop-number.ensures.value c.in_ok-make_state.ensures.made)));
      sets = rw (add-one, c.in_ok-push.ensures.items) (sets_more old item c.args.sets.now i lt3 c.loop-number.invariant.sets (ap (λ (m : VariableSet). m.0) c.in_ok-make_state.ensures.set));
      ready = rw add-one (all_ready_more names taken_in c.args.inputs.now i row lt c.loop-number.invariant.ready).1;
    }

pub make_state-requires-clause-saved : goal.make_state-requires-clause-saved
make_state-requires-clause-saved c =
    let lt : c.loop-number.number < length c.args.saved.now = omega (arith, c.requires.paired, c.requires.saves) in
    let names = scope_in c.args.context.now.names.now in
    subst (λ l. AreTriggers names l) (sym c.deref.ensures.value)
    (subst (λ (v : Vec Identifier). AreTriggers names (row_names v)) (sym c.index-saved-number.is)
    (triggers_at names row_names c.args.saved.now c.loop-number.number c.index-saved-number.result lt c.requires.saved))
