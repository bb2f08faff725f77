use Rattle.std.proofs.Common.{take}
use Rattle.std.specs.List.{AllZip}
use Rattle.sdl_ast.specs.Views.{process_of, block_of}
use Rattle.sdl_unset.specs.Fates.{IsNamed, IsSpelled}
use Rattle.sdl_unset.proofs.spelled.named_path.Given as goal

abbrev pub invariant-loop-step : goal.invariant-loop-step
invariant-loop-step l = record {
  named : AllZip (IsNamed (process_of l.table)) (take l.step-index l.path) l.steps.items;
  spelled : AllZip (IsSpelled (block_of l.block) (process_of l.table)) (take l.step-index l.path) l.steps.items;
}
