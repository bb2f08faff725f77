use Rattle.std.proofs.Common.{◌≡◌, ◌∙◌, ap, subst, map, refl, [], List, ℕ}
use Rattle.std.specs.List.{flat_map}
use denote.Ref.{Bor}
use Rattle.sdl_ast.specs.declared.tree.Process as the_process
use Rattle.sdl_ast.specs.Views.{block_of, entity_of, process_of}
use Rattle.sdl_ast.specs.declared.expression.Identifier.{Identifier}
use Rattle.sdl_tables.specs.Names.{processes_in, processes_of, process_names, signal_names, names_once, timers_of}
use Rattle.sdl_tables.specs.Scopes.{Marks, repeats, process_scopes, shared, signal_timers}
use Rattle.sdl_tables.proofs.States.{map-map}
use Rattle.sdl_tables.proofs.BlockLemmas.{process_ids-of_rows, inside-processes, timers-inside}
use Rattle.sdl_tables.proofs.block_parts.table_processes.Goals as goal

abbrev twice : Bor the_process.Process → List ℕ
twice p = flat_map (repeats []) (process_scopes (process_of p.now))

pub returns-clause-names : goal.returns-clause-names
returns-clause-names c =
    let b = block_of c.args.block.now in
    let rows : map (λ p. process_of p.now) c.in_ok-rows.rows.items ≡ processes_of b =
    c.in_ok-rows.ensures ∙ ap (λ es. flat_map processes_in (map entity_of es)) c.deref.ensures.value in
    let named : c.deref-3.result.now ≡ process_names b =
    process_ids-of_rows b c.in_ok-rows.rows.items c.deref-3.result.now rows
    (c.deref-3.ensures.value ∙ (c.in_ok-ids.ensures ∙ ap (map (λ p. p.now.name)) c.deref-2.ensures.value)) in
    c.in_ok-names.ensures.names ∙ ap names_once named

pub returns-clause-tables : goal.returns-clause-tables
returns-clause-tables c = λ none.
    let rows : map (λ p. process_of p.now) c.in_ok-rows.rows.items ≡ processes_of (block_of c.args.block.now) =
    c.in_ok-rows.ensures ∙ ap (λ es. flat_map processes_in (map entity_of es)) c.deref.ensures.value in
    ap (map process_of) (c.in_ok-built.ensures.tables none)
    ∙ (map-map process_of (λ p. p.now) c.deref-4.result.now
    ∙ (ap (map (λ p. process_of p.now)) c.deref-4.ensures.value ∙ rows))

pub returns-clause-double : goal.returns-clause-double
returns-clause-double c =
    let b = block_of c.args.block.now in
    let rows : map (λ p. process_of p.now) c.in_ok-rows.rows.items ≡ processes_of b =
    c.in_ok-rows.ensures ∙ ap (λ es. flat_map processes_in (map entity_of es)) c.deref.ensures.value in
    let named : c.deref-3.result.now ≡ process_names b =
    process_ids-of_rows b c.in_ok-rows.rows.items c.deref-3.result.now rows
    (c.deref-3.ensures.value ∙ (c.in_ok-ids.ensures ∙ ap (map (λ p. p.now.name)) c.deref-2.ensures.value)) in
    subst (λ (ids : List Identifier). Marks c.in_ok-names.field-0.double (repeats [] ids)) named c.in_ok-names.ensures.double

pub returns-clause-inside : goal.returns-clause-inside
returns-clause-inside c =
    let b = block_of c.args.block.now in
    let rows : map (λ p. process_of p.now) c.in_ok-rows.rows.items ≡ processes_of b =
    c.in_ok-rows.ensures ∙ ap (λ es. flat_map processes_in (map entity_of es)) c.deref.ensures.value in
    let places : flat_map twice c.deref-4.result.now ≡ flat_map (repeats []) (flat_map process_scopes (processes_of b)) =
    ap (flat_map twice) c.deref-4.ensures.value
    ∙ inside-processes (λ p. process_of p.now) c.in_ok-rows.rows.items (processes_of b) rows in
    subst (Marks c.in_ok-built.built.double) places c.in_ok-built.ensures.double

pub returns-clause-shared : goal.returns-clause-shared
returns-clause-shared c =
    let b = block_of c.args.block.now in
    let table = c.args.signals.now in
    let rows : map (λ p. process_of p.now) c.in_ok-rows.rows.items ≡ processes_of b =
    c.in_ok-rows.ensures ∙ ap (λ es. flat_map processes_in (map entity_of es)) c.deref.ensures.value in
    let alarms : flat_map (λ p. shared table (timers_of (process_of p.now))) c.deref-5.result.now ≡ signal_timers b =
    ap (flat_map (λ p. shared table (timers_of (process_of p.now)))) c.deref-5.ensures.value
    ∙ timers-inside (λ p. process_of p.now) b table (signal_names b) c.in_ok-rows.rows.items rows refl c.requires in
    subst (Marks c.signal_timers_in-shared.result) alarms c.signal_timers_in-shared.ensures
