use Rattle.std.proofs.Common.{◌≡◌, List, map, sym, ap, ◌∙◌, subst}
use Rattle.std.specs.List.{AllZip}
use Rattle.sdl_ast.specs.declared.expression.Identifier.{Identifier}
use Rattle.sdl_ast.specs.declared.tree.Process.{Process}
use Rattle.sdl_ast.specs.Views.{block_of, process_of}
use Rattle.turn_code.specs.declared.draft.DraftState.{DraftState}
use Rattle.sdl_tables.specs.Names.{Input, states_of, inputs_by_state, saves_by_state}
use Rattle.sdl_meaning.specs.Act.{scope_of}
use Rattle.sdl_meaning.specs.Outcomes.{Scope}
use Rattle.sdl_meaning.specs.Declarations.{drafted}
use Rattle.sdl_compile.specs.Drafts.{IsNamedAs, SavesAll, AreInputsOf}
use Rattle.sdl_compile.proofs.Zips.{states_match}
use Rattle.sdl_compile.proofs.process.compile_process.Goals as goal

-- The states, as the draft has them.
saved_in : (sc : Scope) (xs : List (List Identifier)) (ds es : List DraftState) → ds ≡ es → AllZip (SavesAll sc) xs ds → AllZip (SavesAll sc) xs es
saved_in sc xs ds es f z = subst (λ (es : List DraftState). AllZip (SavesAll sc) xs es) f z

made_in : (sc : Scope) (xs : List (List Input)) (ds es : List DraftState) → ds ≡ es → AllZip (AreInputsOf sc) xs ds → AllZip (AreInputsOf sc) xs es
made_in sc xs ds es f z = subst (λ (es : List DraftState). AllZip (AreInputsOf sc) xs es) f z

pub returns-clause-matches : goal.returns-clause-matches
returns-clause-matches c =
    let p = process_of c.args.table.now in
    let sc = scope_of (block_of c.args.block.now) p in
    let same = c.process-process.ensures.process in
    let made = made_in sc (inputs_by_state p) c.in_ok-states.states.items c.from-3.result (sym c.from-3.ensures) c.in_ok-states.ensures.made in
    record {
      name = c.draft_name.ensures ∙ ap (λ (q : Process). q.name.name) same;
      instances = ap (λ (q : Process). q.instances) same;
      variables = c.from.ensures ∙ c.in_ok-variables.ensures ∙ ap (map drafted) c.rows.ensures;
      timers = c.from-2.ensures ∙ c.in_ok-timers.ensures ∙ ap (map (λ (id : Identifier). id.name)) c.timers.ensures;
      start = c.in_ok-first.ensures.means;
      states = subst (λ (ds : List DraftState). AllZip IsNamedAs (states_of p) ds) (sym c.from-3.ensures) c.in_ok-states.ensures.names;
      saves = saved_in sc (saves_by_state p) c.in_ok-states.states.items c.from-3.result (sym c.from-3.ensures) c.in_ok-states.ensures.saves;
      inputs = states_match sc (inputs_by_state p) c.from-3.result c.requires.ready.inputs made;
    }
