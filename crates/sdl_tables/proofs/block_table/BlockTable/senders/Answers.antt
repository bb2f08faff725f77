use Rattle.std.proofs.Common.{◌∙◌, ap}
use Rattle.sdl_ast.specs.declared.tree.Block.{Block}
use Rattle.sdl_ast.specs.Views.{block_of}
use Rattle.sdl_tables.specs.Routes.{paths_of, senders, parties_once}
use Rattle.sdl_tables.proofs.Mentions.{path_sources}
use Rattle.sdl_tables.proofs.block_table.BlockTable.senders.Goals as goal

pub returns : goal.returns
returns c =
    c.senders.ensures
    ∙ (c.self.invariant.index.senders c.args.to.now c.args.signal
    ∙ (path_sources (paths_of (block_of c.self.inside.block.now)) c.args.to.now c.args.signal
    ∙ ap (λ (b : Block). parties_once (senders (block_of b) c.args.to.now c.args.signal)) c.self.view_is))
