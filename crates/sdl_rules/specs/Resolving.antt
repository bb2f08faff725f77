-- The contents of a resolved block.
use Rattle.sdl_ast.specs.Views.{block_of}
use Rattle.sdl_tables.specs.Names.{processes_of}
use Rattle.sdl_measures.specs.Measures.{AllMeasures}
use Rattle.sdl_sound.specs.Orders.{AreOrders}
use Rattle.sdl_sound.specs.Sound.{Sound}
use Rattle.sdl_unset.specs.Surveys.{AllSettled}
use Rattle.sdl_rules.specs.declared.resolved.Resolved.TheInside.{Inside}

-- The block is sound; the sets, the orders and the measures are those of its processes.
pub record IsResolved (r : Inside) : Type 0 where
  pub sound : Sound (block_of r.table)
  pub sets : AllSettled (processes_of (block_of r.table)) r.sets.items
  pub orders : AreOrders (processes_of (block_of r.table)) r.orders.items
  pub measures : AllMeasures (processes_of (block_of r.table)) r.measures.items
