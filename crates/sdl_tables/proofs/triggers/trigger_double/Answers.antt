use Rattle.std.proofs.Common.{◌≡◌, ◌<◌, [], ℕ, List, Option, None, Some, length, map, arith, sym, ap, ◌∙◌, subst}
use Rattle.std.specs.Prelude.{slice_get}
use Rattle.std.specs.Global.{Vec}
use Rattle.std.specs.List.{flat_map}
use Rattle.std.specs.Option.{option_map, option_map_or}
use Rattle.std.proofs.lemmas.Option.{none-some, same_Some, slice_get-map}
use Rattle.sdl_ast.specs.Plain.{PlainState, PlainProcess}
use Rattle.sdl_ast.specs.Views.{state_of, process_of}
use Rattle.sdl_ast.specs.declared.tree.StatePart.{StatePart}
use Rattle.sdl_ast.specs.declared.expression.Identifier.{Identifier}
use Rattle.sdl_tables.specs.Names.{states_of, given_to, part_triggers, triggers_by_state}
use Rattle.sdl_tables.specs.Rows.{row_at}
use Rattle.sdl_tables.specs.Scopes.{Marks, repeats}
use Rattle.sdl_tables.specs.Triggers.{trigger_ids, taken_by, taken_in, AreTaken, AreNumbered}
use Rattle.sdl_tables.specs.declared.triggers.Trigger.{Trigger}
use Rattle.sdl_tables.proofs.States.{rows-collected}
use Rattle.sdl_tables.proofs.triggers.trigger_double.Goals as goal

told_by : (o : Option (Vec Trigger)) (xs : List Identifier) → option_map trigger_ids o ≡ Some xs → option_map_or trigger_ids o [] ≡ xs
told_by None xs e = absurd (none-some xs e)
told_by (Some v) xs e = same_Some (trigger_ids v) xs e

-- Each part consumes and saves the names in its row.
are_taken : (parts : List (Vec Trigger)) (ps : List PlainState) → map trigger_ids parts ≡ map part_triggers ps → AreTaken (taken_by parts) ps
are_taken parts ps same k part at =
    told_by (slice_get parts k) (part_triggers part)
    (sym (slice_get-map trigger_ids parts k)
    ∙ (ap (λ l. slice_get l k) same ∙ (slice_get-map part_triggers ps k ∙ ap (option_map part_triggers) at)))

-- The names that each state consumes or saves, found from the numbers of its parts.
whole : (p : PlainProcess) (states : List Identifier) (parts : List (Vec Trigger)) (tree : List StatePart) (rows : List (Vec ℕ)) → states ≡ states_of p
    → map trigger_ids parts ≡ map part_triggers (map state_of tree) → map state_of tree ≡ p.states → length rows ≡ length states
    → ((of_part : ℕ → List Identifier) → AreTaken of_part (map state_of tree) → (s : ℕ) → s < length states
    → row_at (taken_in of_part) rows s ≡ flat_map (given_to part_triggers states s) (map state_of tree))
    → map (taken_in (taken_by parts)) rows ≡ triggers_by_state p
whole p states parts tree rows e same all count told =
    rows-collected (taken_in (taken_by parts)) part_triggers p states rows (map state_of tree) e all count
    (told (taken_by parts) (are_taken parts (map state_of tree) same))

pub returns : goal.returns
returns c =
    let p = process_of c.args.process.now in
    let names = c.number_parts.new.names in
    let parts = c.deref-3.result.now in
    let tree = c.deref-2.result.now in
    let same : map trigger_ids parts ≡ map part_triggers (map state_of tree) =
    ap (map trigger_ids) c.deref-3.ensures.value
    ∙ (c.in_ok-parts.ensures.ids ∙ ap (λ (l : List StatePart). map part_triggers (map state_of l)) (c.deref.ensures.value ∙ sym c.deref-2.ensures.value)) in
    let taken : map (taken_in (taken_by parts)) c.deref-4.result.now ≡ triggers_by_state p =
    ap (map (taken_in (taken_by parts))) c.deref-4.ensures.value
    ∙ whole p c.args.states.now parts tree c.in_ok-rows.rows.items c.requires same (ap (map state_of) c.deref-2.ensures.value)
    (omega (arith, c.in_ok-rows.rows.ok.0, c.in_ok-rows.ensures.len)) c.in_ok-rows.ensures.rows in
    subst (λ (ls : List (List Identifier)). Marks c.in_ok-double.double (flat_map (repeats []) ls)) taken
    (c.in_ok-double.ensures names (sym c.len.ensures) (subst (AreNumbered names) (sym c.deref-3.ensures.value) c.in_ok-parts.ensures.numbered))
