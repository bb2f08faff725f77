use Rattle.std.proofs.Common.{ap, sym, ◌∙◌, vec_len}
use Rattle.sdl_ast.specs.Views.{state_of}
use Rattle.sdl_tables.specs.Rows.{row_names, part_names, row_at}
use Rattle.sdl_tables.proofs.Growing.{taken_more, given_on, given_nothing}
use Rattle.sdl_tables.proofs.state_names.push_states.Goals as goal
use Rattle.sdl_tables.proofs.state_names.push_states.Goals.{in-Some+in_ok-push_state, in_default}

pub loop-id-preserved : goal.loop-id-preserved
loop-id-preserved c =
    let id = c.id-item.result in
    let more = taken_more c.deref-id-items.result.now c.loop-id.id-index id c.loop-id-test.true c.id-item.is in
    elim c.match-number.branch [
      | in-Some+in_ok-push_state w ↦ (
        ap (λ v. vec_len v) w.states-is ∙ (w.in_ok-push_state.ensures.len ∙ c.loop-id.invariant.0),
        λ s within.
            given_on c.args.ids.now s (part_names c.args.which (state_of c.args.part.now)) _ _ _ _ _ id w.in-Some.number more (c.loop-id.invariant.1 s within)
            (ap (λ v. row_at row_names v.items s) w.states-is ∙ w.in_ok-push_state.ensures.names s) (sym c.number.ensures.number ∙ w.in-Some.is),
      )
      | in_default w ↦ (
        ap (λ v. vec_len v) w.states-is ∙ c.loop-id.invariant.0,
        λ s within.
            given_nothing c.args.ids.now s (part_names c.args.which (state_of c.args.part.now)) _ _ _ _ _ id c.number.result more (c.loop-id.invariant.1 s within)
            (ap (λ v. row_at row_names v.items s) w.states-is) c.number.ensures.number w.in_default.not-Some,
      )
    ]
