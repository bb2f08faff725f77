use Rattle.std.proofs.Common.{◌≡◌, true, take}
use Rattle.std.specs.Prelude.{All}
use Rattle.std.specs.List.{list_all}
use Rattle.sdl_ast.specs.Views.{block_of, process_of}
use Rattle.sdl_scopes.specs.Parties.{IsSender, gets_back}
use Rattle.sdl_rules.specs.Backs.{GetThere}
use Rattle.sdl_rules.proofs.back_table.all_get_back.Given as goal

abbrev pub invariant-loop-sender : goal.invariant-loop-sender
invariant-loop-sender l =
    GetThere (block_of l.block) (process_of l.process) l.signal l.marks → All (IsSender (block_of l.block)) l.from
    → list_all (gets_back (block_of l.block) (process_of l.process) l.signal) (take l.sender-index l.from) ≡ true
