use Rattle.std.proofs.Common.{map, ap, ◌∙◌, arith}
use Rattle.sdl_tables.specs.Rows.{rows_inputs, row_input, row_at}
use Rattle.sdl_tables.proofs.Growing.{row_at-push}
use Rattle.sdl_tables.proofs.input_rows.empty_rows.Goals as goal

pub loop-i-preserved : goal.loop-i-preserved
loop-i-preserved c = (
  omega (arith, c.in_ok-push.ensures.len, c.loop-i.invariant.0),
  λ s. ap (λ rows. row_at rows_inputs rows s) c.in_ok-push.ensures.items ∙ row_at-push rows_inputs c.loop-i.inputs.items _ (ap (map row_input) c.new.ensures.items) c.loop-i.invariant.1 s,
)
