use Rattle.std.proofs.Common.{◌≡◌, ◌++◌, ◌∙◌, subst, sym, [], Option, ℕ, List}
use Rattle.std.specs.List.{flat_map}
use Rattle.sdl_ast.specs.Plain.{PlainProcess}
use Rattle.sdl_ast.specs.Views.{process_of}
use Rattle.sdl_tables.specs.Names.{variable_names, timers_of, connector_names, triggers_by_state}
use Rattle.sdl_tables.specs.Scopes.{Marks, repeats, process_scopes}
use Rattle.sdl_tables.specs.Tables.{HasDeclared, HasStanding}
use Rattle.sdl_tables.specs.declared.process_table.Declared.{Declared}
use Rattle.sdl_tables.specs.declared.process_table.Standing.{Standing}
use Rattle.sdl_tables.proofs.ProcessTables.{scopes_are}
use Rattle.sdl_tables.proofs.Repeats.{names_once-distinct}
use Rattle.sdl_tables.proofs.process_table.ProcessTable.new.Goals as goal
use Rattle.plain_laws.proofs.Lists.{append-nil_left, append-nil_right}

-- The place of a duplicate name, declared or in a state.
marked : (p : PlainProcess) (d : Declared) (t : Standing) (place : Option ℕ) → HasDeclared p d → HasStanding p t
    → ((xs ys : List ℕ) → Marks d.double xs → Marks t.double ys → Marks place (xs ++ ys))
    → Marks place (flat_map (repeats []) (process_scopes p))
marked p d t place has stands join =
    let declared = repeats [] (variable_names p) ++ (repeats [] (timers_of p) ++ repeats [] (connector_names p)) in
    subst (Marks place) (sym (scopes_are p))
    (join declared (flat_map (repeats []) (triggers_by_state p)) has.double stands.double)

pub returns-in-Some-clause-double : goal.returns-in-Some-clause-double
returns-in-Some-clause-double c =
    let p = process_of c.args.process.now in
    subst (λ (o : Option ℕ). Marks o (flat_map (repeats []) (process_scopes p))) c.in-Some.is
    (marked p c.in_ok-declared.declared c.in_ok-standing.standing c.earlier.result c.in_ok-declared.ensures.declared c.in_ok-standing.ensures.standing c.earlier.ensures)

pub invariant_of-result : goal.invariant_of-result
invariant_of-result c =
    let p = process_of c.args.process.now in
    let has = c.in_ok-declared.ensures.declared in
    let stands = c.in_ok-standing.ensures.standing in
    let none : flat_map (repeats []) (process_scopes p) ≡ [] =
    subst (λ (o : Option ℕ). Marks o (flat_map (repeats []) (process_scopes p))) c.in-None.is
    (marked p c.in_ok-declared.declared c.in_ok-standing.standing c.earlier.result has stands c.earlier.ensures) in
    record {
      variables = has.variables ∙ names_once-distinct (variable_names p) (append-nil_left _ _ none);
      rows = has.rows;
      timers =
          has.timers
          ∙ names_once-distinct (timers_of p) (append-nil_left _ _ (append-nil_right _ _ none));
      connectors =
          has.connectors
          ∙ names_once-distinct (connector_names p)
          (append-nil_left _ _ (append-nil_right _ _ (append-nil_right _ _ none)));
      states = stands.states;
      parts = stands.parts;
      distinct = none;
    }

pub returns-clause-distinct : goal.returns-clause-distinct
returns-clause-distinct c =
    let p = process_of c.args.process.now in
    subst (λ (o : Option ℕ). Marks o (flat_map (repeats []) (process_scopes p))) c.in-None.is
    (marked p c.in_ok-declared.declared c.in_ok-standing.standing c.earlier.result c.in_ok-declared.ensures.declared c.in_ok-standing.ensures.standing c.earlier.ensures)
