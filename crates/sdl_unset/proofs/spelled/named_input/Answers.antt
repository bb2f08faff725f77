use Rattle.std.proofs.Common.{◌≡◌, ◌<◌, ℕ, get_or, Some, List, map, length, arith, refl, sym, ap, ◌∙◌}
use Rattle.std.specs.Prelude.{slice_get}
use Rattle.std.specs.Global.{Vec}
use Rattle.std.proofs.lemmas.Option.{slice_get_read}
use Rattle.sdl_ast.specs.Views.{process_of, block_of}
use Rattle.sdl_ast.specs.Plain.{PlainProcess}
use Rattle.sdl_ast.specs.declared.expression.Identifier.{Identifier}
use Rattle.sdl_tables.specs.Names.{states_of, inputs_of, inputs_by_state}
use Rattle.sdl_tables.specs.Rows.{row_input, rows_inputs}
use Rattle.sdl_tables.specs.declared.process_table.InputRow.{InputRow}
use Rattle.sdl_unset.proofs.Searches.{rows_there, states_count, rows_count, named_by, spelled_by}
use Rattle.sdl_unset.proofs.spelled.named_input.Goals as goal

pub index-row-requires : goal.index-row-requires
index-row-requires c =
    let p = process_of c.args.table.now in
    let states = c.args.inputs.now in
    let within : c.args.state < length states = omega (arith, states_count p states c.requires.inputs, c.requires.step.0) in
    let there : slice_get states c.args.state ≡ Some c.index-inputs-state.result =
    slice_get_read states (length states) c.args.state c.index-inputs-state.result refl within c.index-inputs-state.is in
    let rows : map row_input c.index-inputs-state.result.items ≡ inputs_of p c.args.state =
    rows_there p states c.args.state c.index-inputs-state.result c.requires.inputs there in
    omega (arith, rows_count p c.args.state c.index-inputs-state.result.items rows, c.requires.step.1)

-- What is known of the row of the input.
there_is : (p : PlainProcess) (states : List (Vec InputRow)) (q i : ℕ) (rows : Vec InputRow) (row : InputRow) → map rows_inputs states ≡ inputs_by_state p
    → q < length (states_of p) → i < length (inputs_of p q) → rows ≡ get_or states q rows → row ≡ get_or rows.items i row
    → (map row_input rows.items ≡ inputs_of p q) × (slice_get rows.items i ≡ Some row)
there_is p states q i rows row same state input read is =
    let within : q < length states = omega (arith, states_count p states same, state) in
    let there : slice_get states q ≡ Some rows = slice_get_read states (length states) q rows refl within read in
    let all : map row_input rows.items ≡ inputs_of p q = rows_there p states q rows same there in
    let inside : i < length rows.items = omega (arith, rows_count p q rows.items all, input) in
    (all, slice_get_read rows.items (length rows.items) i row refl inside is)

pub returns-clause-named : goal.returns-clause-named
returns-clause-named c =
    let p = process_of c.args.table.now in
    let row = there_is p c.args.inputs.now c.args.state c.args.number c.index-inputs-state.result c.index-row.result.now c.requires.inputs c.requires.step.0 c.requires.step.1
    c.index-inputs-state.is c.index-row.ensures in
    let state : slice_get (states_of p) c.args.state ≡ Some c.name-name.result =
    ap (λ (ids : List Identifier). slice_get ids c.args.state) (sym c.states.ensures) ∙ c.name-name.ensures in
    named_by p c.args.state c.args.number c.name-name.result c.index-inputs-state.result.items c.index-row.result.now c.declared_name-signal.result
    state row.0 row.1 c.declared_name-signal.ensures.same

pub returns-clause-spelled : goal.returns-clause-spelled
returns-clause-spelled c =
    let p = process_of c.args.table.now in
    let row = there_is p c.args.inputs.now c.args.state c.args.number c.index-inputs-state.result c.index-row.result.now c.requires.inputs c.requires.step.0 c.requires.step.1
    c.index-inputs-state.is c.index-row.ensures in
    spelled_by (block_of c.args.block.now) p c.args.state c.args.number c.name-name.result.name c.declared_name-signal.result c.index-inputs-state.result.items
    c.index-row.result.now row.0 row.1 c.declared_name-signal.ensures.declared
