use Rattle.sdl_ast.specs.Views.{block_of, process_of}
use Rattle.sdl_rules.specs.Backs.{GetThere}
use Rattle.sdl_rules.proofs.back_table.find_marks.Given as goal

abbrev pub invariant-loop-party : goal.invariant-loop-party
invariant-loop-party l = GetThere (block_of l.block) (process_of l.process) l.fn.signal l.marks.items
