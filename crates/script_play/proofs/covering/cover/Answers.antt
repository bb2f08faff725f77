use Rattle.sdl_ast.specs.Views.{block_of}
use Rattle.script_play.proofs.covering.cover.Goals as goal

pub cover_tree-requires : goal.cover_tree-requires
cover_tree-requires g c = record {
  tokens = c.deref.result.now;
  lexed = rw c.deref.ensures.value c.in-Ok.ensures.lexed;
  written = block_of c.in-Ok-parse.tree;
  reads = c.in-Ok-parse.ensures.found;
  means = c.in-Ok-expand.ensures.block;
}
