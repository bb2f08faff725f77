use Rattle.std.proofs.Common.{ap, ◌∙◌, arith}
use Rattle.std.specs.List.{flat_map}
use Rattle.sdl_tables.specs.Rows.{row_at}
use Rattle.sdl_tables.specs.Triggers.{taken_in}
use Rattle.sdl_tables.proofs.Growing.{row_at-push}
use Rattle.sdl_tables.proofs.triggers.empty_rows.Goals as goal

pub loop-state-preserved : goal.loop-state-preserved
loop-state-preserved c = (
  omega (arith, c.in_ok-push.ensures.len, c.loop-state.invariant.0),
  λ of_part s.
      ap (λ rows. row_at (taken_in of_part) rows s) c.in_ok-push.ensures.items
      ∙ row_at-push (taken_in of_part) c.loop-state.rows.items _ (ap (flat_map of_part) c.new.ensures.items) (c.loop-state.invariant.1 of_part) s,
)
