use Rattle.std.proofs.Common.{◌∙◌, ap}
use Rattle.sdl_ast.specs.declared.tree.Block.{Block}
use Rattle.sdl_ast.specs.Views.{block_of}
use Rattle.sdl_tables.specs.Routes.{paths_of, carries}
use Rattle.sdl_tables.proofs.Mentions.{any_path}
use Rattle.sdl_tables.proofs.block_table.BlockTable.carries.Goals as goal

pub returns : goal.returns
returns c =
    c.carries.ensures
    ∙ (c.self.invariant.index.carried c.args.from.now c.args.to.now c.args.signal
    ∙ (any_path (paths_of (block_of c.self.inside.block.now)) c.args.from.now c.args.to.now c.args.signal
    ∙ ap (λ (b : Block). carries (block_of b) c.args.from.now c.args.to.now c.args.signal) c.self.view_is))
