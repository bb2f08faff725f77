use Rattle.std.proofs.Common.{map, take}
use Rattle.std.specs.List.{AllZip}
use Rattle.sdl_ast.specs.Views.{block_of, process_of}
use Rattle.sdl_compile.specs.Drafts.{MatchesProcess, IsProcessOf}
use Rattle.sdl_compile.proofs.block.compile_processes.Given as goal

abbrev pub invariant-loop-number : goal.invariant-loop-number
invariant-loop-number l = record {
  matches : AllZip (MatchesProcess (block_of l.block)) (map process_of (take l.number l.tables)) l.processes.items;
  made : AllZip (IsProcessOf (block_of l.block)) (map process_of (take l.number l.tables)) l.processes.items;
}
