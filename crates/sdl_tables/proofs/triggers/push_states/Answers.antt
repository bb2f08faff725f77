use Rattle.std.proofs.Common.{ap, sym, ◌∙◌, vec_len}
use Rattle.sdl_tables.specs.Rows.{row_at}
use Rattle.sdl_tables.specs.Triggers.{taken_in}
use Rattle.sdl_tables.proofs.Growing.{taken_more, given_on, given_nothing}
use Rattle.sdl_tables.proofs.triggers.push_states.Goals as goal
use Rattle.sdl_tables.proofs.triggers.push_states.Goals.{in-Some+in_ok-push_state, in_default}

pub loop-id-preserved : goal.loop-id-preserved
loop-id-preserved c =
    let id = c.id-item.result in
    let more = taken_more c.deref-id-items.result.now c.loop-id.id-index id c.loop-id-test.true c.id-item.is in
    elim c.match-number.branch [
      | in-Some+in_ok-push_state w ↦ (
        ap (λ v. vec_len v) w.rows-is ∙ (w.in_ok-push_state.ensures.len ∙ c.loop-id.invariant.0),
        λ of_part s within.
            given_on c.args.states.now s (of_part c.args.number) _ _ _ _ _ id w.in-Some.state more (c.loop-id.invariant.1 of_part s within)
            (ap (λ v. row_at (taken_in of_part) v.items s) w.rows-is ∙ w.in_ok-push_state.ensures.rows of_part s) (sym c.number.ensures.number ∙ w.in-Some.is),
      )
      | in_default w ↦ (
        ap (λ v. vec_len v) w.rows-is ∙ c.loop-id.invariant.0,
        λ of_part s within.
            given_nothing c.args.states.now s (of_part c.args.number) _ _ _ _ _ id c.number.result more (c.loop-id.invariant.1 of_part s within)
            (ap (λ v. row_at (taken_in of_part) v.items s) w.rows-is) c.number.ensures.number w.in_default.not-Some,
      )
    ]
