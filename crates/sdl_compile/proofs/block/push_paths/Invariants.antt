use Rattle.std.proofs.Common.{◌≡◌, ◌++◌, map, take}
use Rattle.sdl_ast.specs.Views.{path_of, block_of}
use Rattle.sdl_compile.specs.Blocks.{drafted_path}
use Rattle.sdl_compile.proofs.block.push_paths.Given as goal

abbrev pub invariant-loop-path : goal.invariant-loop-path
invariant-loop-path l =
    l.compiled.items ≡ l.initial.compiled.items ++ map (drafted_path (block_of l.block)) (map path_of (take l.path-index l.paths))
