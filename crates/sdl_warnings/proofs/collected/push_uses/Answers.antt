use Rattle.std.proofs.Common.{◌≡◌, ◌∙◌, ◌++◌, ap, map, sym}
use Rattle.std.specs.List.{flat_map}
use Rattle.std.proofs.lemmas.Result.{on_ok_weaker}
use Rattle.sdl_ast.specs.Views.{block_of, process_of, declaration_of}
use Rattle.sdl_ast.specs.Plain.{PlainInput}
use Rattle.sdl_tables.specs.Names.{variable_names}
use Rattle.sdl_tables.specs.Names as names
use Rattle.sdl_tables.specs.Rows.{variable_of}
use Rattle.sdl_warnings.specs.Warned.{unsent_stimulus, unsent_inputs, idle_in_declaration, idle_timers, unread_variable, unread_variables}
use Rattle.sdl_warnings.proofs.Pieces.{then_more}
use Rattle.sdl_warnings.proofs.StateWays.{both_maps}
use Rattle.sdl_warnings.proofs.collected.push_uses.Goals as goal

pub returns : goal.returns
returns c =
    let b = block_of c.args.block.now in
    let p = process_of c.args.process.now in
    let old = c.args.found.now.items in
    let one = c.push_inputs.new.found.items in
    let two = c.push_timers.new.found.items in
    let first : one ≡ old ++ unsent_inputs b p =
    c.in_ok-push_inputs.ensures
    ∙ (ap (λ l. old ++ flat_map (λ (i : PlainInput). flat_map (unsent_stimulus b (process_of c.table-table.result.now)) i.stimuli) l) c.parts.ensures
    ∙ ap (λ t. old ++ unsent_inputs b (process_of t)) c.table-table.ensures) in
    let second : two ≡ one ++ idle_timers p =
    c.in_ok-push_timers.ensures
    ∙ (ap (λ l. one ++ flat_map (idle_in_declaration p) (map declaration_of l)) c.deref.ensures.value
    ∙ ap (λ q. one ++ flat_map (idle_in_declaration p) (process_of q).declarations) (c.process.ensures.process ∙ c.table-table.ensures)) in
    let all : map (λ v. v.name) c.rows.result.now ≡ variable_names p =
    sym (both_maps (λ (v : names.Variable). v.name) variable_of c.rows.result.now)
    ∙ (ap (map (λ (v : names.Variable). v.name)) c.rows.ensures ∙ ap (λ t. variable_names (process_of t)) c.table-table.ensures) in
    on_ok_weaker c.push_variables.result
    (λ f.
    then_more old one _ (unsent_inputs b p) (idle_timers p ++ unread_variables p) first
    (then_more one two _ (idle_timers p) (unread_variables p) second (f ∙ ap (λ l. two ++ flat_map (unread_variable p) l) all)))
    c.push_variables.ensures
