use Rattle.std.proofs.Common.{◌≡◌, length}
use Rattle.sdl_ast.specs.Views.{process_of}
use Rattle.sdl_unset.specs.Flows.{AreTold}
use Rattle.sdl_unset.proofs.Joiners.{told_upto}
use Rattle.sdl_unset.proofs.walks.connection_walkers.Given as goal

abbrev pub invariant-loop-number : goal.invariant-loop-number
invariant-loop-number l =
    (length l.walkers.items ≡ length (process_of l.table).connections)
    × AreTold (process_of l.table) (told_upto (process_of l.table) l.order l.number-index) l.walkers.items
