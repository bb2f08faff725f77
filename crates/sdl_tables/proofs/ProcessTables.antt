-- The tables of a process agree with the process.
use Rattle.std.proofs.Common.{◌≡◌, List, [], ◌++◌, map, sym, ap, ◌∙◌, append_assoc}
use Rattle.std.specs.List.{flat_map}
use Rattle.sdl_ast.specs.declared.expression.Identifier.{Identifier}
use Rattle.sdl_ast.specs.Plain.{PlainProcess}
use Rattle.sdl_tables.specs.Names.{variable_names, variables_of, timers_of, connector_names, triggers_by_state}
use Rattle.sdl_tables.specs.Rows.{variable_of}
use Rattle.sdl_tables.specs.Scopes.{repeats, process_scopes}
use Rattle.sdl_tables.specs.declared.process_table.Variable as row
use Rattle.sdl_tables.proofs.States.{map-map}

pub ids-of_rows : (p : PlainProcess) (rows : List row.Variable) (ids : List Identifier) → map variable_of rows ≡ variables_of p
    → ids ≡ map (λ r. r.name) rows → ids ≡ variable_names p
ids-of_rows p rows ids same h = h ∙ (sym (map-map (λ v. v.name) variable_of rows) ∙ ap (map (λ v. v.name)) same)

-- The duplicate names of a process: those that it declares, and those that its states consume and save.
pub scopes_are : (p : PlainProcess) → flat_map (repeats []) (process_scopes p)
    ≡ (repeats [] (variable_names p) ++ (repeats [] (timers_of p) ++ repeats [] (connector_names p))) ++ flat_map (repeats []) (triggers_by_state p)
scopes_are p =
    let vs = repeats [] (variable_names p) in
    let ts = repeats [] (timers_of p) in
    let cs = repeats [] (connector_names p) in
    let ws = flat_map (repeats []) (triggers_by_state p) in
    sym (append_assoc vs (ts ++ cs) ws ∙ ap (λ r. vs ++ r) (append_assoc ts cs ws))
