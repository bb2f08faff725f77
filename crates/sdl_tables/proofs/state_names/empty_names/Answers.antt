use Rattle.std.proofs.Common.{ap, ◌∙◌, arith}
use Rattle.sdl_tables.specs.Rows.{row_names, row_at}
use Rattle.sdl_tables.proofs.Growing.{row_at-push}
use Rattle.sdl_tables.proofs.state_names.empty_names.Goals as goal

pub loop-i-preserved : goal.loop-i-preserved
loop-i-preserved c = (
  omega (arith, c.in_ok-push.ensures.len, c.loop-i.invariant.0),
  λ s. ap (λ rows. row_at row_names rows s) c.in_ok-push.ensures.items ∙ row_at-push row_names c.loop-i.states.items _ c.new.ensures.items c.loop-i.invariant.1 s,
)
