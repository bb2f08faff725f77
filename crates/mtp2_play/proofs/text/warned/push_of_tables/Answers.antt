use Rattle.sdl_ast.specs.Views.{block_of}
use Rattle.mtp2_play.proofs.Warnings.{text_warned}
use Rattle.mtp2_play.proofs.text.warned.push_of_tables.Goals as goal

pub returns : goal.returns
returns c =
    text_warned c.args.name.now c.args.text.now c.args.tokens.now (block_of c.args.written.now) (block_of c.args.meant.now) c.in_ok-found.found.items c.deref.result.now c.as_slice.result.now
    c.args.told.now.items c.push_all.new.told.items c.is_empty-none.result c.requires.lexed c.requires.reads c.requires.means c.in_ok-found.ensures c.deref.ensures.value c.as_slice.ensures.value
    c.in_ok-push_all.ensures c.is_empty-none.ensures
