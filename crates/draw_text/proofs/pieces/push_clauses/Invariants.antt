use Rattle.std.proofs.Common.{◌≡◌, ◌++◌, drop, map}
use Rattle.std.specs.List.{flat_map}
use Rattle.sdl_ast.specs.Views.{block_of, process_of, clause_of}
use Rattle.draw_text.specs.Parts.{part_of}
use Rattle.draw_text.specs.Pieces.{clause_parts}
use Rattle.draw_text.proofs.pieces.push_clauses.Given as goal

abbrev pub invariant-loop-clause : goal.invariant-loop-clause
invariant-loop-clause l =
    map part_of l.parts.items ++ flat_map (clause_parts (block_of l.names.block.now) (process_of l.names.process.now)) (map clause_of (drop l.clause-index l.clauses)) ≡ map part_of l.initial.parts.items ++ flat_map (clause_parts (block_of l.names.block.now) (process_of l.names.process.now)) (map clause_of l.clauses)
