use Rattle.std.proofs.Common.{◌≡◌, map, take}
use Rattle.sdl_meaning.specs.Declarations.{sort_of_tree}
use Rattle.sdl_compile.proofs.block.compile_sorts.Given as goal

abbrev pub invariant-loop-declared : goal.invariant-loop-declared
invariant-loop-declared l = l.compiled.items ≡ map sort_of_tree (take l.declared-index l.sorts)
