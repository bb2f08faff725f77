use Rattle.std.proofs.Common.{[], ◌∷◌, refl, map, Some}
use Rattle.sdl_ast.specs.Views.{process_of}
use Rattle.sdl_tables.specs.Rows.{row_input}
use Rattle.script_covered.specs.Covered.{known_turns}
use Rattle.script_covered.specs.Lcov.{state_rows, input_name}
use Rattle.script_covered.proofs.Pieces.{pieces_on}
use Rattle.script_covered.proofs.Rowing.{made, row_is, row_more}
use Rattle.script_covered.proofs.rows.push_state_rows.Goals as goal

pub loop-number-preserved : goal.loop-number-preserved
loop-number-preserved c =
    let h = known_turns c.args.turns.now.turns.items in
    let p = process_of c.args.process.now in
    let signals = c.args.signals.now in
    pieces_on (λ n xs. state_rows h signals p c.args.place.owner c.args.place.state n (map row_input xs))
    (λ n x. made (row_input x).at (input_name signals p c.args.place.state (row_input x)) (h c.args.place.owner (Some c.args.place.state) n) ∷ []) (λ n x xs. refl) _ _ _ c.args.inputs.now
    c.loop-number.number c.index-inputs-number.result c.loop-number-test.true c.index-inputs-number.is
    (row_more _ _ _ _ c.in_ok-push.ensures.items (row_is _ _ _ _ _ _ refl c.in_ok-name.ensures c.times.ensures)) c.loop-number.invariant
