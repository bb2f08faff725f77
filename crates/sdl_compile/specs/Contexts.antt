-- The context that the transitions of a process share.
use Rattle.std.specs.Prelude.{◌≡◌}
use Rattle.sdl_ast.specs.Views.{block_of, process_of}
use Rattle.sdl_sound.specs.Orders.{IsOrder}
use Rattle.sdl_emit.specs.Measures.{AreMeasures}
use Rattle.sdl_emit.specs.Trimmed.{AreTrimmed}
use Rattle.sdl_compile.specs.declared.state.Context.{Context}
use Rattle.sdl_meaning.specs.Declarations.{drafted_signals, drafted_variables}

-- The variables are those of the process, the signals those of the block. The order, the measures
-- and the copies are those of the connections of the process.
pub record IsContext (x : Context) : Type 0 where
  pub variables : x.variables.now ≡ drafted_variables (process_of x.names.now.process.now)
  pub signals : x.signals.now ≡ drafted_signals (block_of x.names.now.block.now)
  pub ordered : IsOrder (process_of x.names.now.process.now) x.order.now
  pub measured : AreMeasures (process_of x.names.now.process.now) x.measures.now
  pub copied : AreTrimmed (process_of x.names.now.process.now).connections x.copies.now
