use Rattle.std.proofs.Common.{◌∙◌, ap}
use Rattle.sdl_ast.specs.declared.tree.Block.{Block}
use Rattle.sdl_ast.specs.Views.{block_of}
use Rattle.sdl_tables.specs.Routes.{paths_of, receivers}
use Rattle.sdl_tables.proofs.Mentions.{path_parties}
use Rattle.sdl_tables.proofs.block_table.BlockTable.receivers.Goals as goal

pub returns : goal.returns
returns c =
    c.receivers.ensures
    ∙ (c.self.invariant.index.receivers c.args.from.now c.args.signal
    ∙ (path_parties (paths_of (block_of c.self.inside.block.now)) c.args.from.now c.args.signal
    ∙ ap (λ (b : Block). receivers (block_of b) c.args.from.now c.args.signal) c.self.view_is))
